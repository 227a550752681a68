-- Sets of functions, unions and functions of one argument: what they give fits their rows.
use Rattle.std.proofs.Common.{◌≡◌, ℕ, zero, suc, ◌*◌, ◌^◌, ◌≤◌, max, List, [], ◌∷◌, map, zip, length, Option, Some, None, option_map, option_and_then, refl, sym, ap, subst, arith}
use Rattle.std.proofs.lemmas.List.{length-map}
use Rattle.std.proofs.Math.Nat.{mul-le-mul, pow-le-pow_left, pow-le-pow_right, pow-zero, pow-suc}
use Rattle.std.specs.List.{AllByRecursion}
use Rattle.tla_values.specs.Order.{Layer}
use Rattle.tla_values.specs.Sets.{set_of}
use Rattle.tla_values.specs.declared.value.Value.{Value, out-Value}
use Rattle.tla_values.specs.declared.value.Value.TheVariants as value
use Rattle.tla_values.specs.declared.value.Value.TheOpen as layer
use Rattle.tla_values.proofs.SetLaws.{all_set_of}
use Rattle.tla_meaning.specs.declared.op.Op.TheVariants as op
use Rattle.tla_meaning.specs.declared.place.Place.{Place}
use Rattle.tla_meaning.specs.declared.outcome.Outcome.TheVariants.{Val, Wrong}
use Rattle.tla_meaning.specs.Shapes.{functions, each_to, with_each, set_items, all_set_items, union_all}
use Rattle.tla_meaning.specs.Operators.{table, on_all_sets}
use Rattle.tla_meaning.proofs.NormalShapes.{all_plus, all_mapped}
use Rattle.kernel_shapes.specs.Shape.{Shape, Set, Fun, count, inside}
use Rattle.kernel_shapes.specs.Rows.{Literal, no_literal, the_functions, a_big_union, row_shape}
use Rattle.kernel_shapes.specs.Sized.{Sized, shapes_of, index_of}
use Rattle.kernel_shapes.specs.Fits.{FitsLayer, Fits}
use Rattle.kernel_shapes.proofs.FitLemmas.{IfVal, AllFit, PairsFit, IsSet, is_set, members_of, all_to}
use Rattle.kernel_shapes.proofs.Sizes.{set_size, each_to_size, union_all_size, all_union_all}
use Rattle.kernel_shapes.proofs.Operators.{fits_set, OneSet, one_set, TwoSets, two_sets}
use Rattle.kernel_shapes.proofs.Combine.{MeetAll, all_fit}
use Rattle.kernel_shapes.proofs.Tables.{Gives, at_set, at_sets}

-- ---- sets of functions

with_each_fit : (b : Shape) (xs : List Value) (yss : List (List Value)) → AllFit b xs → AllByRecursion (AllFit b) yss → AllByRecursion (AllFit b) (with_each xs yss)
with_each_fit b [] yss h k = tt
with_each_fit b (x ∷ xs) yss h k =
    all_plus _ (map (λ ys. x ∷ ys) yss) (with_each xs yss) (all_mapped (AllFit b) (AllFit b) (λ ys. x ∷ ys) (λ ys r. (h.0, r)) yss k) (with_each_fit b xs yss h.1 k)

each_to_fit : (b : Shape) (xs ts : List Value) → AllFit b ts → AllByRecursion (AllFit b) (each_to xs ts)
each_to_fit b [] ts h = (tt, tt)
each_to_fit b (x ∷ xs) ts h = with_each_fit b ts (each_to xs ts) h (each_to_fit b xs ts h)

zipped : (a b : Shape) (xs ys : List Value) → AllFit a xs → AllFit b ys → PairsFit a b (zip xs ys)
zipped a b [] ys h k = tt
zipped a b (x ∷ xs) [] h k = tt
zipped a b (x ∷ xs) (y ∷ ys) h k = ((h.0, k.0), zipped a b xs ys h.1 k.1)

zip_left : (xs ys : List Value) → length (zip xs ys) ≤ length xs
zip_left [] ys = omega arith
zip_left (x ∷ xs) [] = omega arith
zip_left (x ∷ xs) (y ∷ ys) = let r = zip_left xs ys in omega (arith, r)

-- p results for n arguments at most
powers : (k n l m : ℕ) → k ≤ n → l ≤ m → l ^ k ≤ max 1 (m ^ n)
powers k n l zero h g =
    let z : l ≡ zero = omega (arith, g) in
    subst (λ (x : ℕ). x ^ k ≤ max 1 (zero ^ n)) (sym z) (by k)
  where
    by : (k : ℕ) → zero ^ k ≤ max 1 (zero ^ n)
    by zero = let p = pow-zero zero in omega (arith, p)
    by (suc k) = let p = pow-suc zero k in omega (arith, p)
powers k n l (suc m) h g =
    let p : l ^ k ≤ suc m ^ k = pow-le-pow_left g k in
    let q : suc m ^ k ≤ suc m ^ n = pow-le-pow_right (omega arith) h in
    omega (arith, p, q)

functions_fit : (w : ℕ) (l : Literal) (as' : List Shape) (xs ts : List Value) → TwoSets as' xs ts → Fits (row_shape w the_functions l as') (functions xs ts)
functions_fit w l _ xs ts (two_sets {n = n} {m = m} {a = a} {b = b} h k q r) =
    let made : List Value = map (λ ys. value.Fun (zip xs ys)) (each_to xs ts) in
    let s = set_size made in
    let t = length-map (each_to xs ts) (λ ys. value.Fun (zip xs ys)) in
    let u = each_to_size xs ts in
    let z = powers (length xs) n (length ts) m h q in
    let small : (ys : List Value) → AllFit b ys → Fits (Fun n a b) (value.Fun (zip xs ys)) =
    λ ys g. subst (FitsLayer (Fun n a b)) (sym (value.outs-Fun (zip xs ys))) (let e = zip_left xs ys in omega (arith, e, h), zipped a b xs ys k g) in
    fits_set (max 1 (m ^ n)) (Fun n a b) (set_of made) (omega (arith, s, t, u, z))
    (all_set_of (λ v. FitsLayer (Fun n a b) (out-Value v)) made (all_mapped (AllFit b) _ (λ ys. value.Fun (zip xs ys)) small (each_to xs ts) (each_to_fit b xs ts r)))

pub functions_give : (w : ℕ) (p : Place) (as' : List Sized) (vs : List Value) → MeetAll as' vs → IfVal (Fits (row_shape w the_functions no_literal (shapes_of as'))) (table (Some w) p op.FunSet vs)
functions_give w p as' vs h = at_sets _ p _ (shapes_of as') vs (all_fit as' vs h) (λ xs ts k. functions_fit w no_literal (shapes_of as') xs ts k)

-- ---- unions

abbrev SetsOf : ℕ → Shape → List (List Value) → Type 0
SetsOf m c xss = AllByRecursion (λ xs. (length xs ≤ m) × AllFit c xs) xss

abbrev OfAll : {X : Type 0} → (X → Type 0) → Option X → Type 0
OfAll P None = Unit {0}
OfAll P (Some x) = P x

-- the sets that stand in a set
sets_in : (a : Shape) (vs : List Value) → AllFit a vs → OfAll (λ xss. SetsOf (count a) (inside a) xss × (length xss ≡ length vs)) (all_set_items vs)
sets_in a [] h = (tt, refl)
sets_in a (v ∷ vs) h = by (out-Value v) h.0 (all_set_items vs) (sets_in a vs h.1)
  where
    one : (b : Shape) (xs : List Value) → IsSet b xs → (length xs ≤ count b) × AllFit (inside b) xs
    one _ xs (is_set k l) = (k, l)

    by : (x : Layer Value) → FitsLayer a x → (o : Option (List (List Value))) → OfAll (λ xss. SetsOf (count a) (inside a) xss × (length xss ≡ length vs)) o →
        OfAll (λ xss. SetsOf (count a) (inside a) xss × (length xss ≡ suc (length vs))) (option_and_then (λ xs. option_map (λ xss. xs ∷ xss) o) (set_items x))
    by (layer.Set xs) g (Some xss) k = ((one a xs (members_of a xs g), k.0), ap suc k.1)
    by (layer.Set xs) g None k = tt
    by (layer.Bool b) g o k = tt
    by (layer.Int b) g o k = tt
    by (layer.Text b) g o k = tt
    by (layer.Fun b) g o k = tt

big_union_fits : (w : ℕ) (p : Place) (l : Literal) (as' : List Shape) (xs : List Value) → OneSet as' xs → IfVal (Fits (row_shape w a_big_union l as')) (on_all_sets p (λ xss. Val (value.Set (union_all xss))) xs)
big_union_fits w p l _ xs (one_set {n = n} {a = a} h k) = by (all_set_items xs) (sets_in a xs k)
  where
    by : (o : Option (List (List Value))) → OfAll (λ xss. SetsOf (count a) (inside a) xss × (length xss ≡ length xs)) o →
        IfVal (Fits (Set (n * count a) (inside a))) (elim o [ None ↦ Wrong p | Some xss ↦ Val (value.Set (union_all xss)) ])
    by None g = tt
    by (Some xss) g =
        let s = union_all_size (count a) xss (all_to _ _ (λ ys z. z.0) xss g.0) in
        let e = g.1 in
        let most : length xss ≤ n = omega (arith, e, h) in
        let m : length xss * count a ≤ n * count a = mul-le-mul most (same (count a)) in
        fits_set (n * count a) (inside a) (union_all xss) (omega (arith, s, m))
        (all_union_all _ xss (all_to _ _ (λ ys z. z.1) xss g.0))
      where
        same : (j : ℕ) → j ≤ j
        same j = omega arith

pub big_union_gives : (w : ℕ) (p : Place) (as' : List Sized) (vs : List Value) → MeetAll as' vs → Gives w p op.BigUnion a_big_union as' vs
big_union_gives w p as' vs h = at_set _ p _ (shapes_of as') vs (all_fit as' vs h) (λ xs k. big_union_fits w p (index_of as') (shapes_of as') xs k)
