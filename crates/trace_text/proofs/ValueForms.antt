-- What the text of a value is, by the value's kind.
use Rattle.std.proofs.Common.{◌≡◌, ℕ, ◌<◌, ◌^◌, Bool, true, false, not, ◌&&◌, List, [], ◌∷◌, ◌++◌, map, Some, None, unwrap_or, refl, ap, ap₂, ◌∙◌, sym, ℤ, pos, negsuc, subst, arith, IsTrue}
use Rattle.std.specs.Prelude.{if◌then◌else◌, is_some}
use Rattle.std.specs.List.{list_all}
use Rattle.std.specs.Ordering.{int_eq}
use Rattle.std.proofs.lemmas.Bool.{false≢true}
use Rattle.std.proofs.lemmas.Bool.Decides.{Decides-int_eq, nat_tests}
use Rattle.tla_values.specs.Integers.{fits_width}
use Rattle.tla_values.specs.Names.{is_name, begins_fairness, is_name_byte, is_word}
use Rattle.tla_values.specs.Order.{Layer, kind_of}
use Rattle.tla_values.specs.Show.{Shown, integers_fit, is_at, layer_fits, layer_shown, shown, text_of}
use Rattle.tla_values.specs.declared.value.Value.{Value, out-Value, roll-Value, roll-out-Value, Bool as Truth, Int, Text, Set, Fun}
use Rattle.tla_values.specs.declared.value.Value.TheVariants.{outs-Bool, outs-Int, outs-Text, outs-Set, outs-Fun, rolls-Int, rolls-Text, rolls-Set, rolls-Fun}
use Rattle.tla_values.specs.declared.value.Value.TheOpen as layer
use Rattle.tla_values.specs.declared.value.Value.TheFolds.{fold_out-Value, map-Value}
use Rattle.tla_values.proofs.ShowLemmas.{shown_out}
use Rattle.tla_values.proofs.TextLaw.{kind_at, kind_is, int_fits}
use Rattle.trace_text.specs.inner.Reading.{Fits}
use Rattle.trace_text.specs.inner.Pieces.{IsPlain, PlainHere, bytes_of, bytes_here}
use Rattle.trace_text.proofs.Runs.{left_of, right_of}

-- ---- one layer

abbrev pub fit : Value → Bool
fit v = integers_fit 128 v

abbrev layer_fit : Layer Value → Bool
layer_fit x = layer_fits 128 (map-Value Value Bool fit x)

fit_out : (v : Value) → fit v ≡ layer_fit (out-Value v)
unfolding integers_fit
fit_out v = fold_out-Value Bool (layer_fits 128) v

abbrev layer_of : Layer Value → Shown
layer_of x = layer_shown (map-Value Value Shown shown x)

pub shown_at : (v : Value) (x : Layer Value) → out-Value v ≡ x → shown v ≡ layer_of x
shown_at v x e = shown_out v ∙ ap layer_of e

pub text_at : (v : Value) (x : Layer Value) → out-Value v ≡ x → text_of v ≡ (layer_of x).text
text_at v x e = ap (λ s. s.text) (shown_at v x e)

pub rolled : (v : Value) (x : Layer Value) → out-Value v ≡ x → v ≡ roll-Value x
rolled v x e = sym (roll-out-Value v) ∙ ap roll-Value e

-- ---- integers that fit

pub fits_bool : (b : Bool) → Fits (Truth b)
fits_bool b = fit_out (Truth b) ∙ ap layer_fit (outs-Bool b)

pub fits_int : (z : ℤ) → IsTrue (fits_width 128 z) → Fits (Int z)
fits_int z h = fit_out (Int z) ∙ ap layer_fit (outs-Int z) ∙ h

pub fits_count : (z : ℤ) (n : ℕ) → z ≡ pos n → n < 2 ^ 127 → Fits (Int z)
fits_count z n e small =
    let within : fits_width 128 (pos n) ≡ true = grind (arith, nat_tests) in
    fits_int z (ap (fits_width 128) e ∙ within)

pub fits_below : (z : ℤ) (n : ℕ) → z ≡ negsuc n → n < 2 ^ 127 → Fits (Int z)
fits_below z n e small =
    let within : fits_width 128 (negsuc n) ≡ true = grind (arith, nat_tests) in
    fits_int z (ap (fits_width 128) e ∙ within)

pub fits_text : (t : List ℕ) → Fits (Text t)
fits_text t = fit_out (Text t) ∙ ap layer_fit (outs-Text t)

abbrev pub pair_fit : Value × Value → Bool
pair_fit p = fit p.0 && fit p.1

fit_fun : (ps : List (Value × Value)) → fit (Fun ps) ≡ list_all pair_fit ps
fit_fun ps = fit_out (Fun ps) ∙ ap layer_fit (outs-Fun ps) ∙ same ps
  where
    same : (qs : List (Value × Value)) → list_all (λ (p : Bool × Bool). p.0 && p.1) (map (λ (p : Value × Value). (fit p.0, fit p.1)) qs) ≡ list_all pair_fit qs
    same [] = refl
    same (p ∷ qs) = ap (λ b. (fit p.0 && fit p.1) && b) (same qs)

fit_set : (xs : List Value) → fit (Set xs) ≡ list_all fit xs
fit_set xs = fit_out (Set xs) ∙ ap layer_fit (outs-Set xs) ∙ same xs
  where
    same : (ys : List Value) → list_all (λ b. b) (map fit ys) ≡ list_all fit ys
    same [] = refl
    same (y ∷ ys) = ap (λ b. fit y && b) (same ys)

both : (a b : Bool) → a ≡ true → b ≡ true → (a && b) ≡ true
both a b g h = ap₂ (λ x y. x && y) g h

pub fits_none : Fits (Fun [])
fits_none = fit_fun []

pub fits_more : (ps : List (Value × Value)) (p : Value × Value) → Fits (Fun ps) → Fits p.0 → Fits p.1 → Fits (Fun (ps ++ p ∷ []))
fits_more ps p fits argument value =
    fit_fun (ps ++ p ∷ []) ∙ more ps (sym (fit_fun ps) ∙ fits)
  where
    more : (qs : List (Value × Value)) → list_all pair_fit qs ≡ true → list_all pair_fit (qs ++ p ∷ []) ≡ true
    more [] h = both _ _ (both _ _ argument value) refl
    more (q ∷ qs) h = both _ _ (left_of (pair_fit q) (list_all pair_fit qs) h) (more qs (right_of (pair_fit q) (list_all pair_fit qs) h))

pub fits_members : (ps : List (Value × Value)) → Fits (Fun ps) → Fits (Set (map (λ p. p.1) ps))
fits_members ps fits = fit_set (map (λ p. p.1) ps) ∙ members ps (sym (fit_fun ps) ∙ fits)
  where
    members : (qs : List (Value × Value)) → list_all pair_fit qs ≡ true → list_all fit (map (λ (p : Value × Value). p.1) qs) ≡ true
    members [] h = refl
    members (q ∷ qs) h =
        both _ _ (right_of (fit q.0) (fit q.1) (left_of (pair_fit q) (list_all pair_fit qs) h)) (members qs (right_of (pair_fit q) (list_all pair_fit qs) h))

-- a number, the members of a set, and the pairs of a function
pub int_fits_at : (v : Value) (z : ℤ) → out-Value v ≡ layer.Int z → Fits v → IsTrue (fits_width 128 z)
int_fits_at v z e fits = sym (fit_out v ∙ ap layer_fit e) ∙ fits

pub members_fit : (v : Value) (xs : List Value) → out-Value v ≡ layer.Set xs → Fits v → list_all fit xs ≡ true
members_fit v xs e fits = sym (fit_set xs) ∙ ap fit (sym (rolled v (layer.Set xs) e ∙ rolls-Set xs)) ∙ fits

pub pairs_fit : (v : Value) (ps : List (Value × Value)) → out-Value v ≡ layer.Fun ps → Fits v → list_all pair_fit ps ≡ true
pairs_fit v ps e fits = sym (fit_fun ps) ∙ ap fit (sym (rolled v (layer.Fun ps) e ∙ rolls-Fun ps)) ∙ fits

-- ---- the first byte

int_fits_of : (x : Layer Value) → layer_fit x ≡ true → IsTrue (int_fits (map-Value Value Shown shown x))
int_fits_of (layer.Int n) h = h
int_fits_of (layer.Bool b) h = refl
int_fits_of (layer.Text t) h = refl
int_fits_of (layer.Set xs) h = refl
int_fits_of (layer.Fun ps) h = refl

kind_kept : (x : Layer Value) → kind_of (map-Value Value Shown shown x) ≡ kind_of x
kind_kept (layer.Bool b) = refl
kind_kept (layer.Int n) = refl
kind_kept (layer.Text t) = refl
kind_kept (layer.Set xs) = refl
kind_kept (layer.Fun ps) = refl

pub kind_here : (v : Value) (r : List ℕ) → Fits v → kind_at (text_of v ++ r) ≡ kind_of (out-Value v)
kind_here v r fits =
    ap (λ t. kind_at (t ++ r)) (text_at v (out-Value v) refl)
    ∙ kind_is (map-Value Value Shown shown (out-Value v)) r (int_fits_of (out-Value v) (sym (fit_out v) ∙ fits)) ∙ kind_kept (out-Value v)

kind_small : (x : Layer Value) → kind_of x < 5
kind_small (layer.Bool b) = omega arith
kind_small (layer.Int n) = omega arith
kind_small (layer.Text t) = omega arith
kind_small (layer.Set xs) = omega arith
kind_small (layer.Fun ps) = omega arith

-- no value's text begins with a byte of no kind
pub no_kind : (v : Value) (r bytes : List ℕ) → Fits v → kind_at bytes ≡ 9 → text_of v ++ r ≡ bytes → ⊥
no_kind v r bytes fits none e =
    let small : kind_of (out-Value v) < 5 = kind_small (out-Value v) in
    let nine : kind_of (out-Value v) ≡ 9 = sym (kind_here v r fits) ∙ ap kind_at e ∙ none in
    omega arith

plain_small : (x : Layer Value) → (v : Value) → out-Value v ≡ x → IsPlain v → kind_of x < 3
plain_small (layer.Bool b) v e h = omega arith
plain_small (layer.Int n) v e h = omega arith
plain_small (layer.Text t) v e h = omega arith
plain_small (layer.Set xs) v e h = absurd (subst PlainHere e h)
plain_small (layer.Fun ps) v e h = absurd (subst PlainHere e h)

pub plain_kind : (v : Value) → IsPlain v → kind_of (out-Value v) < 3
plain_kind v h = plain_small (out-Value v) v refl h

-- ---- numbers and names

pub number_is : (v : Value) (n : ℕ) → is_at n (shown v).number ≡ true → v ≡ Int (pos n)
number_is v n h = by_layer (out-Value v) refl
  where
    by_layer : (x : Layer Value) → out-Value v ≡ x → v ≡ Int (pos n)
    by_layer (layer.Int z) e =
        let at : int_eq z (pos n) ≡ true = sym (ap (λ s. is_at n s.number) (shown_at v (layer.Int z) e)) ∙ h in
        rolled v (layer.Int z) e ∙ rolls-Int z ∙ ap Int ((Decides-int_eq z (pos n)).0 at)
    by_layer x e = absurd (false≢true (sym (ap (λ s. is_at n s.number) (shown_at v x e)) ∙ h))

-- a value that is a name
pub record Named (v : Value) : Type 0 where
  pub is : v ≡ Text (bytes_of v)
  pub bytes : list_all is_name_byte (bytes_of v) ≡ true
  pub name : unwrap_or (shown v).name [] ≡ bytes_of v

name_bytes : (t : List ℕ) → is_name t ≡ true → list_all is_name_byte t ≡ true
unfolding is_name
name_bytes t h = left_of (list_all is_name_byte t) _ (left_of (is_word t) _ (left_of (is_word t && not (begins_fairness t)) _ h))

pub named_is : (v : Value) → is_some (shown v).name ≡ true → Named v
named_is v h = by_layer (out-Value v) refl
  where
    by_name : (t : List ℕ) (b : Bool) → is_name t ≡ b → out-Value v ≡ layer.Text t → (shown v).name ≡ (if b then Some t else None) → Named v
    by_name t true e is k =
        let bytes : bytes_of v ≡ t = ap bytes_here is in
        record {
          is = rolled v (layer.Text t) is ∙ rolls-Text t ∙ ap Text (sym bytes);
          bytes = ap (list_all is_name_byte) bytes ∙ name_bytes t e;
          name = ap (λ o. unwrap_or o []) k ∙ sym bytes;
        }
    by_name t false e is k = absurd (false≢true (sym (ap is_some k) ∙ h))

    by_layer : (x : Layer Value) → out-Value v ≡ x → Named v
    by_layer (layer.Text t) e = by_name t (is_name t) refl e (ap (λ s. s.name) (shown_at v (layer.Text t) e))
    by_layer x e = absurd (false≢true (sym (ap (λ s. is_some s.name) (shown_at v x e)) ∙ h))
