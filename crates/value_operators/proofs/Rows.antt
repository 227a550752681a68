-- Rows of the table at values of known kinds.
use Rattle.std.proofs.Common.{◌≡◌, ℕ, zero, suc, Bool, true, false, not, List, [], ◌∷◌, ◌++◌, map, refl, sym, ◌∙◌, ap, ℤ, pos, negsuc, Option, Some, None, arith}
use Rattle.std.proofs.lemmas.Int.{ints}
use Rattle.std.proofs.lemmas.Bool.Decides.{nat_tests}
use Rattle.std.specs.Prelude.{option_map, option_and_then, int_le, if◌then◌else◌}
use Rattle.std.specs.List.{AllByRecursion, flat_map}
use Rattle.tla_values.specs.Order.{Layer}
use Rattle.tla_values.specs.Sets.{elements, elements_here, insert, set_of, union_of}
use Rattle.tla_values.specs.Integers.{fits_width}
use Rattle.tla_values.specs.declared.value.Value.{Value, out-Value}
use Rattle.tla_values.specs.declared.value.Value.TheVariants as value
use Rattle.tla_values.specs.declared.value.Value.TheVariants.{outs-Bool, outs-Int, outs-Set}
use Rattle.tla_values.specs.declared.value.Value.TheOpen as layer
use Rattle.tla_meaning.specs.declared.op.Op.TheVariants as op
use Rattle.tla_meaning.specs.declared.outcome.Outcome.{Outcome}
use Rattle.tla_meaning.specs.declared.outcome.Outcome.TheVariants.{Val, Wrong, Big}
use Rattle.tla_meaning.specs.declared.place.Place.{Place}
use Rattle.tla_meaning.specs.Numbers.{Width, number}
use Rattle.tla_meaning.specs.Operators.{table, on_truth, on_numbers, on_set, on_sets, on_all_sets}
use Rattle.tla_meaning.specs.Shapes.{set_items, all_set_items, union_all}

-- what is said of a value that is one of a known kind
pub truth-out : (v : Value) (t : Bool) → v ≡ value.Bool t → out-Value v ≡ layer.Bool t
truth-out v t e = ap out-Value e ∙ outs-Bool t

pub number-out : (v : Value) (n : ℤ) → v ≡ value.Int n → out-Value v ≡ layer.Int n
number-out v n e = ap out-Value e ∙ outs-Int n

-- a set
pub record IsSetValue (v : Value) : Type 0 where
  pub out : out-Value v ≡ layer.Set (elements v)

pub set-out : (v : Value) (xs : List Value) → v ≡ value.Set xs → IsSetValue v
unfolding elements
set-out v xs e =
    let o : out-Value v ≡ layer.Set xs = ap out-Value e ∙ outs-Set xs in
    record { out = o ∙ ap layer.Set (sym (ap elements_here o)) }

pub truth-row : (p : Place) (f : Bool → Outcome) (v : Value) (t : Bool) → v ≡ value.Bool t →
    on_truth p f (map out-Value (v ∷ [])) ≡ f t
truth-row p f v t e = ap (λ (l : Layer Value). on_truth p f (l ∷ [])) (truth-out v t e)

pub numbers-row : (p : Place) (f : ℤ → ℤ → Outcome) (v w : Value) (m n : ℤ) → v ≡ value.Int m → w ≡ value.Int n →
    on_numbers p f (map out-Value (v ∷ w ∷ [])) ≡ f m n
numbers-row p f v w m n e d =
    ap (λ (l : Layer Value). on_numbers p f (l ∷ out-Value w ∷ [])) (number-out v m e)
    ∙ ap (λ (l : Layer Value). on_numbers p f (layer.Int m ∷ l ∷ [])) (number-out w n d)

pub set-row : (p : Place) (f : List Value → Outcome) (v : Value) → IsSetValue v →
    on_set p f (map out-Value (v ∷ [])) ≡ f (elements v)
set-row p f v h = ap (λ (l : Layer Value). on_set p f (l ∷ [])) h.out

pub sets-row : (p : Place) (f : List Value → List Value → Outcome) (v w : Value) → IsSetValue v → IsSetValue w →
    on_sets p f (map out-Value (v ∷ w ∷ [])) ≡ f (elements v) (elements w)
sets-row p f v w h k =
    ap (λ (l : Layer Value). on_sets p f (l ∷ out-Value w ∷ [])) h.out
    ∙ ap (λ (l : Layer Value). on_sets p f (layer.Set (elements v) ∷ l ∷ [])) k.out

-- ---- the union of all members, which are sets

union-set : (xs ys : List Value) → union_of xs (set_of ys) ≡ set_of (xs ++ ys)
union-set [] ys = refl
union-set (x ∷ xs) ys = ap (insert x) (union-set xs ys)

union-all : (vs : List Value) → union_all (map elements vs) ≡ set_of (flat_map elements vs)
union-all [] = refl
union-all (v ∷ vs) = ap (union_of (elements v)) (union-all vs) ∙ union-set (elements v) (flat_map elements vs)

items-of : (vs : List Value) → AllByRecursion IsSetValue vs → all_set_items vs ≡ Some (map elements vs)
items-of [] h = refl
items-of (v ∷ vs) h =
    ap (λ l. option_and_then (λ xs. option_map (λ xss. xs ∷ xss) (all_set_items vs)) (set_items l)) h.0.out
    ∙ ap (λ o. option_map (λ xss. elements v ∷ xss) o) (items-of vs h.1)

pub union-row : (w : Width) (p : Place) (v : Value) → IsSetValue v → AllByRecursion IsSetValue (elements v) →
    table w p op.BigUnion (v ∷ []) ≡ Val (value.Set (set_of (flat_map elements (elements v))))
union-row w p v h k =
    let f : List (List Value) → Outcome = λ xss. Val (value.Set (union_all xss)) in
    set-row p (on_all_sets p f) v h
    ∙ ap (λ (o : Option (List (List Value))). elim o [ None ↦ Wrong p | Some xss ↦ f xss ]) (items-of (elements v) k)
    ∙ ap (λ (xs : List Value). Val (value.Set xs)) (union-all (elements v))

-- ---- numbers under a width

-- a number whose literal says that it is outside
pub big-row : (w : ℕ) (p : Place) (out : Bool) (n m : ℤ) → out ≡ not (fits_width w m) → (out ≡ false → n ≡ m) →
    (if out then Big p else Val (value.Int n)) ≡ number (Some w) p m
big-row w p out n m e h = go (fits_width w m) out e h
  where
    go : (fits o : Bool) → o ≡ not fits → (o ≡ false → n ≡ m) →
        (if o then Big p else Val (value.Int n)) ≡ (if fits then Val (value.Int m) else Big p)
    go true o e h =
        ap (λ (t : Bool). if t then Big p else Val (value.Int n)) e ∙ ap (λ (z : ℤ). Val (value.Int z)) (h e)
    go false o e h = ap (λ (t : Bool). if t then Big p else Val (value.Int n)) e

above-zero : (k : ℕ) → int_le (pos (suc k)) (pos 0) ≡ false
above-zero k = grind (arith, ints, nat_tests)

-- a number by a divisor, which is none where this is at most 0, and which fits
module _ (w : ℕ) (p : Place) (none : Bool) (n : ℤ) (exact : ℕ → ℤ) (row : ℤ → Outcome) (fits : fits_width w n ≡ true)
    (zeroth : row (pos 0) ≡ Wrong p) (below : (k : ℕ) → row (negsuc k) ≡ Wrong p)
    (above : (k : ℕ) → row (pos (suc k)) ≡ number (Some w) p (exact (suc k))) where
  abbrev shown : Bool → Outcome
  shown t = if t then Wrong p else Val (value.Int n)

  pub wrong-row : (m : ℤ) → none ≡ int_le m (pos 0) → ((k : ℕ) → m ≡ pos (suc k) → n ≡ exact (suc k)) →
      shown none ≡ row m
  wrong-row (pos zero) e h = ap shown e ∙ sym zeroth
  wrong-row (pos (suc k)) e h =
      ap shown (e ∙ above-zero k) ∙ ap (λ t. if t then Val (value.Int n) else Big p) (sym fits)
      ∙ ap (number (Some w) p) (h k refl) ∙ sym (above k)
  wrong-row (negsuc k) e h = ap shown e ∙ sym (below k)
