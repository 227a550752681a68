-- Texts that differ.
use Rattle.std.proofs.Common.{◌≡◌, ℕ, suc, ◌+◌, ◌<◌, Bool, true, false, ◌||◌, ◌&&◌, not, List, [], ◌∷◌, map, drop, get_or, length, sym, ◌∙◌, ap, IsTrue, ◌↔◌, drop-cons, add-one}
use Rattle.tla_values.specs.Order.{Layer, same_value}
use Rattle.tla_values.specs.Sets.{member, distinct}
use Rattle.tla_values.specs.declared.value.Value.{Value, out-Value}
use Rattle.tla_values.specs.declared.value.Value.TheVariants as value
use Rattle.tla_values.specs.declared.value.Value.TheVariants.{outs-Text}
use Rattle.tla_values.specs.declared.value.Value.TheOpen as layer
use Rattle.tla_values.proofs.Extensional.{same_equal, same_itself, true_test}

text_here : Layer Value → List ℕ
text_here (layer.Bool b) = []
text_here (layer.Int n) = []
text_here (layer.Text t) = t
text_here (layer.Set xs) = []
text_here (layer.Fun ps) = []

pub text_one : (s t : List ℕ) → value.Text s ≡ value.Text t → s ≡ t
unfolding text_here
text_one s t e = sym (ap text_here (outs-Text s)) ∙ ap (λ v. text_here (out-Value v)) e ∙ ap text_here (outs-Text t)

pub same-texts : (s t : List ℕ) (b : Bool) → (IsTrue b ↔ (s ≡ t)) → same_value (value.Text s) (value.Text t) ≡ b
same-texts s t b h = true_test _ _
    (λ e. h.1 (text_one s t (same_equal (value.Text s) (value.Text t) e)))
    (λ e. ap (λ u. same_value (value.Text s) (value.Text u)) (sym (h.0 e)) ∙ same_itself (value.Text s))

abbrev values_of : List (List ℕ) → List Value
values_of ts = map (λ t. value.Text t) ts

-- the texts from the place i on
member-from : (s : List ℕ) (ts : List (List ℕ)) (i : ℕ) (t : List ℕ) (b : Bool) → i < length ts → t ≡ get_or ts i t → (IsTrue b ↔ (s ≡ t))
    → member (value.Text s) (values_of (drop i ts)) ≡ (b || member (value.Text s) (values_of (drop (i + 1) ts)))
member-from s ts i t b lt e h = rw add-one (
    ap (λ l. member (value.Text s) (values_of l)) (drop-cons ts i t lt)
    ∙ ap (λ u. same_value (value.Text s) (value.Text u) || member (value.Text s) (values_of (drop (suc i) ts))) (sym e)
    ∙ ap (λ u. u || member (value.Text s) (values_of (drop (suc i) ts))) (same-texts s t b h))

distinct-from : (ts : List (List ℕ)) (i : ℕ) (t : List ℕ) (b : Bool) → i < length ts → t ≡ get_or ts i t → b ≡ member (value.Text t) (values_of (drop (i + 1) ts))
    → distinct (values_of (drop i ts)) ≡ (not b && distinct (values_of (drop (i + 1) ts)))
distinct-from ts i t b lt e h =
    let whole : drop i ts ≡ get_or ts i t ∷ drop (i + 1) ts = rw add-one (drop-cons ts i t lt) in
    ap (λ (u : List (List ℕ)). distinct (values_of u)) whole
    ∙ ap (λ u. not (member (value.Text u) (values_of (drop (i + 1) ts))) && distinct (values_of (drop (i + 1) ts))) (sym e)
    ∙ ap (λ u. not u && distinct (values_of (drop (i + 1) ts))) (sym h)

-- the first item from i on is the text, or it is passed over
module _ (s : List ℕ) (ts : List (List ℕ)) (i : ℕ) (t : List ℕ) (b : Bool) (lt : i < length ts) (e : t ≡ get_or ts i t) (h : IsTrue b ↔ (s ≡ t))
    (all : member (value.Text s) (values_of (drop i ts)) ≡ member (value.Text s) (values_of ts)) where
  pub member-found : b ≡ true → true ≡ member (value.Text s) (values_of ts)
  member-found is = sym (sym all ∙ member-from s ts i t b lt e h ∙ ap (λ u. u || member (value.Text s) (values_of (drop (i + 1) ts))) is)

  pub member-passed : b ≡ false → member (value.Text s) (values_of (drop (i + 1) ts)) ≡ member (value.Text s) (values_of ts)
  member-passed is = sym (member-from s ts i t b lt e h ∙ ap (λ u. u || member (value.Text s) (values_of (drop (i + 1) ts))) is) ∙ all

module _ (ts : List (List ℕ)) (i : ℕ) (t : List ℕ) (b : Bool) (lt : i < length ts) (e : t ≡ get_or ts i t) (h : b ≡ member (value.Text t) (values_of (drop (i + 1) ts)))
    (all : distinct (values_of (drop i ts)) ≡ distinct (values_of ts)) where
  pub distinct-broken : b ≡ true → distinct (values_of ts) ≡ false
  distinct-broken is = sym all ∙ distinct-from ts i t b lt e h ∙ ap (λ u. not u && distinct (values_of (drop (i + 1) ts))) is

  pub distinct-passed : b ≡ false → distinct (values_of (drop (i + 1) ts)) ≡ distinct (values_of ts)
  distinct-passed is = sym (distinct-from ts i t b lt e h ∙ ap (λ u. not u && distinct (values_of (drop (i + 1) ts))) is) ∙ all
