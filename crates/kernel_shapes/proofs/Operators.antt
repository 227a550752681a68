-- Each operator's value fits its row.
use Rattle.std.proofs.Common.{◌≡◌, ℕ, zero, suc, ◌+◌, ◌^◌, ◌≤◌, Bool, true, false, IsTrue, List, [], ◌∷◌, map, filter, length, Option, Some, None, option_map, ℤ, pos, negsuc, ◌+ℤ◌, ◌-ℤ◌, ◌*ℤ◌, neg_ℤ, ◌≤ℤ◌, nat_abs, int_le, arith, refl, sym, ap, subst, if◌then◌else◌}
use Rattle.std.proofs.lemmas.Int.{ints}
use Rattle.std.proofs.lemmas.List.{length-map}
use Rattle.std.proofs.Math.Nat.{pow-le-pow_right}
use Rattle.std.specs.List.{AllByRecursion}
use Rattle.tla_values.specs.Order.{Layer, same_value}
use Rattle.tla_values.specs.Sets.{set_of, union_of, apply}
use Rattle.tla_values.specs.declared.value.Value.{Value, out-Value}
use Rattle.tla_values.specs.declared.value.Value.TheVariants as value
use Rattle.tla_values.specs.declared.value.Value.TheOpen as layer
use Rattle.tla_values.proofs.SetLaws.{all_set_of, all_filter}
use Rattle.tla_meaning.specs.declared.place.Place.{Place}
use Rattle.tla_meaning.specs.declared.outcome.Outcome.{Outcome}
use Rattle.tla_meaning.specs.declared.outcome.Outcome.TheVariants.{Val, Big}
use Rattle.tla_meaning.specs.Numbers.{number, quotient, remainder, in_width, range, from_on}
use Rattle.tla_meaning.specs.Shapes.{the_set, sublists, subsets, items_of, items_from, is_int}
use Rattle.tla_meaning.specs.Operators.{on_number, on_numbers, on_set, on_sets, or_wrong}
use Rattle.tla_meaning.proofs.NormalShapes.{all_plus, all_mapped, IfSomes}
use Rattle.tla_meaning.proofs.Views.{false≢true}
use Rattle.kernel_shapes.specs.Shape.{Shape, Atom, Num, Set, Fun, Rec, Tup, Seq, Empty, inside, result, join, join_all, alike_all, interval, moved}
use Rattle.kernel_shapes.specs.Rows.{Literal, a_sum, a_difference, a_product, a_negation, a_quotient, a_remainder, a_size, an_enumeration, a_range, a_union, a_part, the_subsets, row_shape}
use Rattle.kernel_shapes.specs.Sized.{row_joins}
use Rattle.kernel_shapes.specs.Fits.{OfSome, FitsLayer, Fits, FitAll}
use Rattle.kernel_shapes.proofs.Intervals.{Between, moved_between, width_between, sum_between, difference_between, product_between, negation_between, quotient_between, remainder_between}
use Rattle.kernel_shapes.proofs.FitLemmas.{IfVal, AllFit, IsNum, is_num, IsSet, is_set, number_of, members_of, all_to, some_to, join_left}
use Rattle.kernel_shapes.proofs.JoinRight.{join_right, all_joined}
use Rattle.kernel_shapes.proofs.Sizes.{set_size, union_size, filter_size, from_size, sublists_size, all_union}

-- ---- values of each kind

pub fits_truth : (b : Bool) → Fits Atom (value.Bool b)
fits_truth b = subst (FitsLayer Atom) (sym (value.outs-Bool b)) tt

pub fits_set : (n : ℕ) (a : Shape) (vs : List Value) → length vs ≤ n → AllFit a vs → Fits (Set n a) (value.Set vs)
fits_set n a vs h k = subst (FitsLayer (Set n a)) (sym (value.outs-Set vs)) (h, k)

pub fits_int : (a b n : ℤ) → Between a b n → Fits (Num a b) (value.Int n)
fits_int a b n h = subst (FitsLayer (Num a b)) (sym (value.outs-Int n)) (h.low, h.high)

-- a number of the width in an interval
pub number_fits : (w : ℕ) (p : Place) (a b n : ℤ) → Between a b n → IfVal (Fits (interval w a b)) (number (Some w) p n)
number_fits w p a b n h = by_width (in_width (Some w) n) refl
  where
    by_width : (t : Bool) → in_width (Some w) n ≡ t → IfVal (Fits (interval w a b)) (if t then Val (value.Int n) else Big p)
    by_width true e = fits_int (moved w a) (moved w b) n (moved_between w a b n h (width_between w n e))
    by_width false e = tt

-- ---- operands by their kinds

abbrev pub FitLayers : List Shape → List (Layer Value) → Type 0
FitLayers [] [] = Unit {0}
FitLayers (a ∷ as') (x ∷ xs) = FitsLayer a x × FitLayers as' xs
FitLayers [] (x ∷ xs) = ⊥
FitLayers (a ∷ as') [] = ⊥

pub layers_fit : (as' : List Shape) (vs : List Value) → FitAll as' vs → FitLayers as' (map out-Value vs)
layers_fit [] [] h = tt
layers_fit (a ∷ as') (v ∷ vs) h = (h.0, layers_fit as' vs h.1)
layers_fit [] (v ∷ vs) h = absurd h
layers_fit (a ∷ as') [] h = absurd h

pub on_number_if : (P : Value → Type 0) (p : Place) (f : ℤ → Outcome) (ls : List (Layer Value)) → ((m : ℤ) → ls ≡ layer.Int m ∷ [] → IfVal P (f m)) → IfVal P (on_number p f ls)
on_number_if P p f (layer.Int m ∷ []) h = h m refl
on_number_if P p f ls h = tt

pub on_numbers_if : (P : Value → Type 0) (p : Place) (f : ℤ → ℤ → Outcome) (ls : List (Layer Value)) →
    ((m n : ℤ) → ls ≡ layer.Int m ∷ layer.Int n ∷ [] → IfVal P (f m n)) → IfVal P (on_numbers p f ls)
on_numbers_if P p f (layer.Int m ∷ layer.Int n ∷ []) h = h m n refl
on_numbers_if P p f ls h = tt

pub on_set_if : (P : Value → Type 0) (p : Place) (f : List Value → Outcome) (ls : List (Layer Value)) → ((xs : List Value) → ls ≡ layer.Set xs ∷ [] → IfVal P (f xs)) → IfVal P (on_set p f ls)
on_set_if P p f (layer.Set xs ∷ []) h = h xs refl
on_set_if P p f ls h = tt

pub on_sets_if : (P : Value → Type 0) (p : Place) (f : List Value → List Value → Outcome) (ls : List (Layer Value)) →
    ((xs ys : List Value) → ls ≡ layer.Set xs ∷ layer.Set ys ∷ [] → IfVal P (f xs ys)) → IfVal P (on_sets p f ls)
on_sets_if P p f (layer.Set xs ∷ layer.Set ys ∷ []) h = h xs ys refl
on_sets_if P p f ls h = tt

-- the shapes of one or two operands, by their values
pub data OneNum : List Shape → ℤ → Type 0 where
  one_num : {a b n : ℤ} → Between a b n → OneNum (Num a b ∷ []) n

pub data TwoNums : List Shape → ℤ → ℤ → Type 0 where
  two_nums : {a b c d m n : ℤ} → Between a b m → Between c d n → TwoNums (Num a b ∷ Num c d ∷ []) m n

pub data OneSet : List Shape → List Value → Type 0 where
  one_set : {n : ℕ} {a : Shape} {xs : List Value} → length xs ≤ n → AllFit a xs → OneSet (Set n a ∷ []) xs

pub data TwoSets : List Shape → List Value → List Value → Type 0 where
  two_sets : {n m : ℕ} {a b : Shape} {xs ys : List Value} → length xs ≤ n → AllFit a xs → length ys ≤ m → AllFit b ys → TwoSets (Set n a ∷ Set m b ∷ []) xs ys

pub one_number : (as' : List Shape) (n : ℤ) → FitLayers as' (layer.Int n ∷ []) → OneNum as' n
one_number [] n h = absurd h
one_number (a ∷ []) n h = by a (number_of a n h.0)
  where
    by : (a : Shape) → IsNum a n → OneNum (a ∷ []) n
    by a (is_num k) = one_num k
one_number (a ∷ b ∷ as') n h = absurd h.1

pub two_numbers : (as' : List Shape) (m n : ℤ) → FitLayers as' (layer.Int m ∷ layer.Int n ∷ []) → TwoNums as' m n
two_numbers [] m n h = absurd h
two_numbers (a ∷ []) m n h = absurd h.1
two_numbers (a ∷ b ∷ []) m n h = by a b (number_of a m h.0) (number_of b n h.1.0)
  where
    by : (a b : Shape) → IsNum a m → IsNum b n → TwoNums (a ∷ b ∷ []) m n
    by a b (is_num k) (is_num l) = two_nums k l
two_numbers (a ∷ b ∷ c ∷ as') m n h = absurd h.1.1

pub one_of_sets : (as' : List Shape) (xs : List Value) → FitLayers as' (layer.Set xs ∷ []) → OneSet as' xs
one_of_sets [] xs h = absurd h
one_of_sets (a ∷ []) xs h = by a (members_of a xs h.0)
  where
    by : (a : Shape) → IsSet a xs → OneSet (a ∷ []) xs
    by a (is_set k l) = one_set k l
one_of_sets (a ∷ b ∷ as') xs h = absurd h.1

pub two_of_sets : (as' : List Shape) (xs ys : List Value) → FitLayers as' (layer.Set xs ∷ layer.Set ys ∷ []) → TwoSets as' xs ys
two_of_sets [] xs ys h = absurd h
two_of_sets (a ∷ []) xs ys h = absurd h.1
two_of_sets (a ∷ b ∷ []) xs ys h = by a b (members_of a xs h.0) (members_of b ys h.1.0)
  where
    by : (a b : Shape) → IsSet a xs → IsSet b ys → TwoSets (a ∷ b ∷ []) xs ys
    by a b (is_set k l) (is_set q r) = two_sets k l q r
two_of_sets (a ∷ b ∷ c ∷ as') xs ys h = absurd h.1.1

pub same_length : (as' : List Shape) (vs : List Value) → FitAll as' vs → length as' ≡ length vs
same_length [] [] h = refl
same_length (a ∷ as') (v ∷ vs) h = ap suc (same_length as' vs h.1)
same_length [] (v ∷ vs) h = absurd h
same_length (a ∷ as') [] h = absurd h

-- ---- arithmetic

pub sum_fits : (w : ℕ) (p : Place) (l : Literal) (as' : List Shape) (m n : ℤ) → TwoNums as' m n → IfVal (Fits (row_shape w a_sum l as')) (number (Some w) p (m +ℤ n))
sum_fits w p l _ m n (two_nums {a = a} {b = b} {c = c} {d = d} h k) = number_fits w p _ _ (m +ℤ n) (sum_between a b c d m n h k)

pub difference_fits : (w : ℕ) (p : Place) (l : Literal) (as' : List Shape) (m n : ℤ) → TwoNums as' m n → IfVal (Fits (row_shape w a_difference l as')) (number (Some w) p (m -ℤ n))
difference_fits w p l _ m n (two_nums {a = a} {b = b} {c = c} {d = d} h k) = number_fits w p _ _ (m -ℤ n) (difference_between a b c d m n h k)

pub product_fits : (w : ℕ) (p : Place) (l : Literal) (as' : List Shape) (m n : ℤ) → TwoNums as' m n → IfVal (Fits (row_shape w a_product l as')) (number (Some w) p (m *ℤ n))
product_fits w p l _ m n (two_nums {a = a} {b = b} {c = c} {d = d} h k) = number_fits w p _ _ (m *ℤ n) (product_between a b c d m n h k)

pub negation_fits : (w : ℕ) (p : Place) (l : Literal) (as' : List Shape) (m : ℤ) → OneNum as' m → IfVal (Fits (row_shape w a_negation l as')) (number (Some w) p (neg_ℤ m))
negation_fits w p l _ m (one_num {a = a} {b = b} h) = number_fits w p _ _ (neg_ℤ m) (negation_between a b m h)

pub quotient_fits : (w : ℕ) (p : Place) (l : Literal) (as' : List Shape) (m n : ℤ) → TwoNums as' m n → IfVal (Fits (row_shape w a_quotient l as')) (quotient (Some w) p m n)
quotient_fits w p l _ m (pos zero) (two_nums h k) = tt
quotient_fits w p l _ m (pos (suc n)) (two_nums {a = a} {b = b} h k) = number_fits w p _ _ _ (quotient_between a b m n h)
quotient_fits w p l _ m (negsuc n) (two_nums h k) = tt

pub remainder_fits : (w : ℕ) (p : Place) (l : Literal) (as' : List Shape) (m n : ℤ) → TwoNums as' m n → IfVal (Fits (row_shape w a_remainder l as')) (remainder (Some w) p m n)
remainder_fits w p l _ m (pos zero) (two_nums h k) = tt
remainder_fits w p l _ m (pos (suc n)) (two_nums {c = c} {d = d} h k) = number_fits w p _ _ _ (remainder_between c d m n k)
remainder_fits w p l _ m (negsuc n) (two_nums h k) = tt

-- ---- sets

-- n numbers from m on lie in any interval from m or less to their last or more
from_fits : (a b m : ℤ) (n : ℕ) → a ≤ℤ m → (m +ℤ pos n) ≤ℤ (b +ℤ pos 1) → AllFit (Num a b) (from_on m n)
from_fits a b m zero h k = tt
from_fits a b m (suc n) h k = (
  fits_int a b m (record { low = h; high = omega (arith, ints) }),
  from_fits a b (m +ℤ pos 1) n (omega (arith, ints)) (omega (arith, ints)),
)

pub range_fits : (w : ℕ) (l : Literal) (as' : List Shape) (m n : ℤ) → TwoNums as' m n → Fits (row_shape w a_range l as') (value.Set (range m n))
range_fits w l _ m n (two_nums {a = a} {b = b} {c = c} {d = d} h k) = by (int_le m n) refl (int_le a d) refl
  where
    by : (t : Bool) → int_le m n ≡ t → (u : Bool) → int_le a d ≡ u →
        Fits (Set (if u then nat_abs (d -ℤ a) + 1 else 0) (Num a d)) (value.Set (from_on m (if t then nat_abs (n -ℤ m) + 1 else 0)))
    by false e u f = fits_set _ (Num a d) [] (omega arith) tt
    by true e true f =
        let p = h.low in let q = k.high in
        let z = from_size (nat_abs (n -ℤ m) + 1) m in
        let o : m ≤ℤ n = grind (arith, ints) in
        let s : nat_abs (n -ℤ m) + 1 ≤ nat_abs (d -ℤ a) + 1 = grind (arith, ints, p, q, o) in
        fits_set (nat_abs (d -ℤ a) + 1) (Num a d) (from_on m (nat_abs (n -ℤ m) + 1)) (omega (arith, z, s))
        (from_fits a d m (nat_abs (n -ℤ m) + 1) p (grind (arith, ints, q, o)))
    by true e false f =
        let p = h.low in let q = k.high in
        absurd (grind (arith, ints, p, q))

pub union_fits : (w : ℕ) (l : Literal) (as' : List Shape) (xs ys : List Value) → TwoSets as' xs ys → IsTrue (row_joins a_union l as') →
    Fits (row_shape w a_union l as') (value.Set (union_of xs ys))
union_fits w l _ xs ys (two_sets {n = n} {m = m} {a = a} {b = b} h k q r) e =
    let s = union_size xs ys in
    fits_set (n + m) (join a b) (union_of xs ys) (omega (arith, h, q, s))
    (all_union (λ v. FitsLayer (join a b) (out-Value v)) xs ys (all_to _ _ (λ v. join_left a b (out-Value v)) xs k)
    (all_to _ _ (λ v. join_right a b (out-Value v) e) ys r))

filtered_fits : (n : ℕ) (a : Shape) (p : Value → Bool) (xs : List Value) → length xs ≤ n → AllFit a xs → Fits (Set n a) (value.Set (filter p xs))
filtered_fits n a p xs h k =
    let s = filter_size p xs in
    fits_set n a (filter p xs) (omega (arith, h, s)) (all_filter (λ v. FitsLayer a (out-Value v)) p xs k)

pub part_fits : (w : ℕ) (l : Literal) (as' : List Shape) (p : Value → Bool) (xs ys : List Value) → TwoSets as' xs ys → Fits (row_shape w a_part l as') (value.Set (filter p xs))
part_fits w l _ p xs ys (two_sets {n = n} {a = a} h k q r) = filtered_fits n a p xs h k

power_more : (k n : ℕ) → k ≤ n → 2 ^ k ≤ 2 ^ n
power_more k n h = pow-le-pow_right (omega arith) h

part_members : (P : Value → Type 0) (xs : List Value) → AllByRecursion P xs → AllByRecursion (λ ys. (length ys ≤ length xs) × AllByRecursion P ys) (sublists xs)
part_members P [] h = ((omega arith, tt), tt)
part_members P (x ∷ xs) h =
    let r = part_members P xs h.1 in
    all_plus _ (sublists xs) (map (λ ys. x ∷ ys) (sublists xs))
    (all_to _ _ (λ ys k. (let l = k.0 in omega (arith, l), k.1)) (sublists xs) r)
    (all_mapped _ _ (λ ys. x ∷ ys) (λ ys k. (let l = k.0 in omega (arith, l), (h.0, k.1))) (sublists xs) r)

pub subsets_fits : (w : ℕ) (l : Literal) (as' : List Shape) (xs : List Value) → OneSet as' xs → Fits (row_shape w the_subsets l as') (subsets xs)
subsets_fits w l _ xs (one_set {n = n} {a = a} h k) =
    let sets : List Value = map (λ ys. value.Set ys) (sublists xs) in
    let s = set_size sets in
    let m = length-map (sublists xs) (λ ys. value.Set ys) in
    let t = sublists_size xs in
    let q = power_more (length xs) n h in
    let small : (ys : List Value) → (length ys ≤ length xs) × AllFit a ys → Fits (Set n a) (value.Set ys) =
    λ ys g. fits_set n a ys (let u = g.0 in omega (arith, h, u)) g.1 in
    fits_set (2 ^ n) (Set n a) (set_of sets) (omega (arith, s, m, t, q))
    (all_set_of (λ v. FitsLayer (Set n a) (out-Value v)) sets
    (all_mapped _ _ (λ ys. value.Set ys) small (sublists xs) (part_members (λ v. FitsLayer a (out-Value v)) xs k)))

pub enumeration_fits : (w : ℕ) (l : Literal) (as' : List Shape) (vs : List Value) → FitAll as' vs → IsTrue (alike_all as') → Fits (row_shape w an_enumeration l as') (the_set vs)
enumeration_fits w l as' vs h e =
    let s = set_size vs in
    let t = same_length as' vs h in
    fits_set (length as') (join_all as') (set_of vs) (omega (arith, s, t)) (all_set_of _ vs (all_joined as' vs e h))

pub cardinality_fits : (w : ℕ) (p : Place) (l : Literal) (as' : List Shape) (xs : List Value) → OneSet as' xs → IfVal (Fits (row_shape w a_size l as')) (number (Some w) p (pos (length xs)))
cardinality_fits w p l _ xs (one_set {n = n} h k) = number_fits w p (pos 0) (pos n) (pos (length xs)) (record { low = omega (arith, ints); high = omega (arith, ints, h) })

-- ---- functions and sequences

pub apply_all : (P : Value → Type 0) (ps : List (Value × Value)) (i : Value) → AllByRecursion (λ p. P p.1) ps → IfSomes P (apply ps i)
apply_all P [] i h = tt
apply_all P (p ∷ ps) i h = by (same_value i p.0) (apply_all P ps i h.1)
  where
    by : (b : Bool) → IfSomes P (apply ps i) → IfSomes P (if b then Some p.1 else apply ps i)
    by true k = h.0
    by false k = k

-- what is said of the items of a sequence is said of the results of the function
items_results : (P : Value → Type 0) (n : ℕ) (ps : List (Value × Value)) → OfSome (AllByRecursion P) (items_from n ps) → AllByRecursion (λ p. P p.1) ps
items_results P n [] h = tt
items_results P n (p ∷ ps) h = by (is_int n (out-Value p.0)) (items_from (n + 1) ps) (items_results P (n + 1) ps) h
  where
    by : (b : Bool) (o : Option (List Value)) → (OfSome (AllByRecursion P) o → AllByRecursion (λ p. P p.1) ps) →
        OfSome (AllByRecursion P) (if b then option_map (λ xs. p.1 ∷ xs) o else None) → AllByRecursion (λ p. P p.1) (p ∷ ps)
    by true (Some xs) f k = (k.0, f k.1)
    by true None f k = absurd k
    by false o f k = absurd k

pub or_wrong_fits : (P : Value → Type 0) (p : Place) (o : Option Value) → IfSomes P o → IfVal P (or_wrong p o)
or_wrong_fits P p None h = tt
or_wrong_fits P p (Some v) h = h

-- the results of a function or sequence
abbrev pub has_results : Shape → Bool
has_results (Fun n a r) = true
has_results (Seq n a) = true
has_results a = false

pub results_fit : (a : Shape) (ps : List (Value × Value)) → IsTrue (has_results a) → FitsLayer a (layer.Fun ps) → AllByRecursion (λ p. FitsLayer (result a) (out-Value p.1)) ps
results_fit (Fun n a r) ps e h = all_to _ _ (λ p k. k.1) ps h.1
results_fit (Seq n a) ps e h = items_results _ 1 ps (some_to _ _ (λ xs k. k.1) (items_of ps) h)
results_fit Atom ps e h = absurd (false≢true e)
results_fit (Num a b) ps e h = absurd (false≢true e)
results_fit (Set n a) ps e h = absurd (false≢true e)
results_fit (Rec xs as') ps e h = absurd (false≢true e)
results_fit (Tup as') ps e h = absurd (false≢true e)
results_fit Empty ps e h = absurd (false≢true e)

-- the members of a range lie from the low end of its left operand's shape to the high end of its right one's
pub range_within : (w : ℕ) (l : Literal) (as' : List Shape) (m n : ℤ) → TwoNums as' m n → AllFit (inside (row_shape w a_range l as')) (range m n)
range_within w l as' m n h =
    by (row_shape w a_range l as') (members_of (row_shape w a_range l as') (range m n) (subst (FitsLayer (row_shape w a_range l as')) (value.outs-Set (range m n)) (range_fits w l as' m n h)))
  where
    by : (a : Shape) → IsSet a (range m n) → AllFit (inside a) (range m n)
    by _ (is_set k q) = q
