-- Values without brackets, by what stands in front.
use Rattle.std.proofs.Common.{◌≡◌, ℕ, Bool, true, false, List, [], ◌∷◌, ◌++◌, flat_map, refl, ap, ◌∙◌, sym, ℤ, subst, arith, append_assoc, IsTrue, codes}
use Rattle.std.specs.Fmt.{signed_decimal}
use Rattle.tla_values.specs.Integers.{fits_width}
use Rattle.tla_values.specs.Order.{Layer, kind_of}
use Rattle.tla_values.specs.Show.{escaped, quoted, text_of}
use Rattle.tla_values.specs.declared.value.Value.{Value, out-Value, Bool as Truth, Int, Text}
use Rattle.tla_values.specs.declared.value.Value.TheVariants.{rolls-Bool, rolls-Int, rolls-Text}
use Rattle.tla_values.specs.declared.value.Value.TheOpen as layer
use Rattle.tla_values.proofs.TextLaw.{cancel, head_is, kind_at, tail_is}
use Rattle.trace_text.specs.inner.Reading.{Fits}
use Rattle.trace_text.specs.inner.Pieces.{IsPlain, PlainHere, truth_text}
use Rattle.trace_text.proofs.ValueForms.{kind_here, int_fits_at, rolled, text_at}

truths_apart : (a b : Bool) (r q : List ℕ) → truth_text a ++ r ≡ truth_text b ++ q → (a ≡ b) × (r ≡ q)
truths_apart true true r q e = (refl, cancel (codes "TRUE") r q e)
truths_apart true false r q e = absurd (omega (arith, head_is 84 70 _ _ e))
truths_apart false true r q e = absurd (omega (arith, head_is 70 84 _ _ e))
truths_apart false false r q e = (refl, cancel (codes "FALSE") r q e)

truth_kind : (b : Bool) (rest : List ℕ) → kind_at (truth_text b ++ rest) ≡ 0
truth_kind true rest = refl
truth_kind false rest = refl

-- a text in front
pub record Quoted (v : Value) (inner r : List ℕ) : Type 0 where
  pub text : List ℕ
  pub is : Text text ≡ v
  pub bytes : inner ≡ flat_map escaped text ++ 34 ∷ r

-- a number in front
pub record Number (v : Value) (bytes r : List ℕ) : Type 0 where
  pub number : ℤ
  pub is : Int number ≡ v
  pub fits : IsTrue (fits_width 128 number)
  pub text : bytes ≡ signed_decimal number ++ r

module _ (bytes : List ℕ) (v : Value) (r : List ℕ) (fits : Fits v) (plain : IsPlain v) (e : bytes ≡ text_of v ++ r) where
  kind : (k : ℕ) (x : Layer Value) → kind_at bytes ≡ k → out-Value v ≡ x → kind_of x ≡ k
  kind k x known is = ap kind_of (sym is) ∙ sym (kind_here v r fits) ∙ ap kind_at (sym e) ∙ known

  opened : (x : Layer Value) → out-Value v ≡ x → PlainHere x
  opened x is = subst PlainHere is plain

  pub truth_read : (b : Bool) (rest : List ℕ) → bytes ≡ truth_text b ++ rest → (Truth b ≡ v) × (rest ≡ r)
  truth_read b rest f = by_layer (out-Value v) refl
    where
      known : kind_at bytes ≡ 0
      known = ap kind_at f ∙ truth_kind b rest

      by_layer : (x : Layer Value) → out-Value v ≡ x → (Truth b ≡ v) × (rest ≡ r)
      by_layer (layer.Bool a) is =
          let same = truths_apart b a rest r (sym f ∙ e ∙ ap (λ t. t ++ r) (text_at v (layer.Bool a) is)) in
          (ap Truth same.0 ∙ sym (rolled v (layer.Bool a) is ∙ rolls-Bool a), same.1)
      by_layer (layer.Int z) is = absurd (omega (arith, kind 0 (layer.Int z) known is))
      by_layer (layer.Text t) is = absurd (omega (arith, kind 0 (layer.Text t) known is))
      by_layer (layer.Set xs) is = absurd (opened (layer.Set xs) is)
      by_layer (layer.Fun ps) is = absurd (opened (layer.Fun ps) is)

  pub quote_read : (inner : List ℕ) → bytes ≡ 34 ∷ inner → Quoted v inner r
  quote_read inner f = by_layer (out-Value v) refl
    where
      known : kind_at bytes ≡ 2
      known = ap kind_at f

      by_layer : (x : Layer Value) → out-Value v ≡ x → Quoted v inner r
      by_layer (layer.Text t) is =
          let whole : 34 ∷ inner ≡ quoted t ++ r = sym f ∙ e ∙ ap (λ x. x ++ r) (text_at v (layer.Text t) is) in
          record {
            text = t;
            is = sym (rolled v (layer.Text t) is ∙ rolls-Text t);
            bytes = tail_is 34 34 _ _ (whole ∙ ap (λ x. 34 ∷ x) (append_assoc (flat_map escaped t) (34 ∷ []) r));
          }
      by_layer (layer.Bool b) is = absurd (omega (arith, kind 2 (layer.Bool b) known is))
      by_layer (layer.Int z) is = absurd (omega (arith, kind 2 (layer.Int z) known is))
      by_layer (layer.Set xs) is = absurd (opened (layer.Set xs) is)
      by_layer (layer.Fun ps) is = absurd (opened (layer.Fun ps) is)

  pub number_read : ((b : Bool) (rest : List ℕ) → bytes ≡ truth_text b ++ rest → ⊥) → ((rest : List ℕ) → bytes ≡ 34 ∷ rest → ⊥) → Number v bytes r
  number_read no_truth not_quote = by_layer (out-Value v) refl
    where
      by_layer : (x : Layer Value) → out-Value v ≡ x → Number v bytes r
      by_layer (layer.Int z) is = record {
        number = z;
        is = sym (rolled v (layer.Int z) is ∙ rolls-Int z);
        fits = int_fits_at v z is fits;
        text = e ∙ ap (λ t. t ++ r) (text_at v (layer.Int z) is);
      }
      by_layer (layer.Bool b) is = absurd (no_truth b r (e ∙ ap (λ t. t ++ r) (text_at v (layer.Bool b) is)))
      by_layer (layer.Text t) is = absurd (not_quote _ (e ∙ ap (λ x. x ++ r) (text_at v (layer.Text t) is)))
      by_layer (layer.Set xs) is = absurd (opened (layer.Set xs) is)
      by_layer (layer.Fun ps) is = absurd (opened (layer.Fun ps) is)
