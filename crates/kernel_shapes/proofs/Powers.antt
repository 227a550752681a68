-- Powers: where one is inside the width, so are the smaller ones, and each lies in its shape.
use Rattle.std.proofs.Common.{◌≡◌, ℕ, zero, suc, ◌*◌, ◌-◌, ◌^◌, ◌≤◌, ◌<◌, ◌⊎◌, inl, inr, Bool, true, false, IsTrue, List, [], ◌∷◌, map, Some, nat_abs, nat_eq, ℤ, pos, negsuc, ◌*ℤ◌, refl, sym, ◌∙◌, ap, subst, arith, if◌then◌else◌}
use Rattle.std.proofs.lemmas.Int.{ints}
use Rattle.std.proofs.Math.IntN.{pos-*ℤ-pos, negsuc-*ℤ-pos, *ℤ-negsuc, *ℤ_comm, *ℤ-one}
use Rattle.std.proofs.Math.IntN as IntN
use Rattle.std.proofs.Math.Nat.{mul-le-mul, pow-le-pow_right}
use Rattle.tla_values.specs.declared.value.Value.{Value, out-Value}
use Rattle.tla_values.specs.declared.value.Value.TheVariants as value
use Rattle.tla_values.specs.declared.value.Value.TheOpen as layer
use Rattle.tla_meaning.specs.declared.op.Op.TheVariants as op
use Rattle.tla_meaning.specs.declared.place.Place.{Place}
use Rattle.tla_values.specs.Order.{Layer}
use Rattle.tla_meaning.specs.declared.outcome.Outcome.{Outcome}
use Rattle.tla_meaning.specs.declared.outcome.Outcome.TheVariants.{Val, Big}
use Rattle.tla_meaning.specs.Operators.{on_numbers}
use Rattle.tla_meaning.specs.Numbers.{in_width, number, power, power_of}
use Rattle.tla_meaning.proofs.Views.{false≢true}
use Rattle.kernel_shapes.specs.Shape.{Shape, Num, over_both}
use Rattle.kernel_shapes.specs.Rows as rows
use Rattle.kernel_shapes.specs.Rows.{Literal, no_literal, a_power, power_shape}
use Rattle.kernel_shapes.specs.Sized.{Sized, shapes_of, index_of, row_joins}
use Rattle.kernel_shapes.specs.Fits.{FitsLayer, Fits}
use Rattle.kernel_shapes.proofs.FitLemmas.{IfVal, IsNum, is_num, number_of}
use Rattle.kernel_shapes.proofs.Intervals.{Between, width_between, moved_between, product_between}
use Rattle.kernel_shapes.proofs.Operators.{fits_int}
use Rattle.kernel_shapes.proofs.Applied.{IsLiteral}
use Rattle.kernel_shapes.proofs.Combine.{MeetAll}
use Rattle.kernel_shapes.proofs.Tables.{Gives}

-- ---- the size of a product

size_right : (x : ℤ) (c : ℕ) → nat_abs (x *ℤ pos c) ≡ nat_abs x * c
size_right (pos a) c = ap nat_abs (pos-*ℤ-pos a c)
size_right (negsuc a) c = let p = negsuc-*ℤ-pos a c in omega (arith, ints, p)

size_of_product : (x y : ℤ) → nat_abs (x *ℤ y) ≡ nat_abs x * nat_abs y
size_of_product x (pos c) = size_right x c
size_of_product x (negsuc c) =
    let p = *ℤ-negsuc x c in
    let q = size_right x (suc c) in
    omega (arith, ints, p, q)

small_power : (x : ℤ) → nat_abs x ≤ 1 → (n : ℕ) → nat_abs (power_of x n) ≤ 1
small_power x h zero = omega (arith, ints)
small_power x h (suc n) =
    let p = size_of_product x (power_of x n) in
    let q = small_power x h n in
    let r : nat_abs x * nat_abs (power_of x n) ≤ 1 * 1 = mul-le-mul h q in
    omega (arith, p, r)

-- ---- the width

below_half : (w : ℕ) → 2 ≤ w → 2 ≤ 2 ^ (w - 1)
below_half w h = let p : 2 ^ 1 ≤ 2 ^ (w - 1) = more (w - 1) (omega (arith, h)) in omega (arith, p)
  where
    more : (k : ℕ) → 1 ≤ k → 2 ^ 1 ≤ 2 ^ k
    more k q = pow-le-pow_right (omega arith) q

small_fits : (w : ℕ) (y : ℤ) → nat_abs y < 2 ^ (w - 1) → in_width (Some w) y ≡ true
small_fits w (pos n) h = grind (arith, h)
small_fits w (negsuc n) h = grind (arith, h)

fits_small : (w : ℕ) (y : ℤ) → in_width (Some w) y ≡ true → nat_abs y ≤ 2 ^ (w - 1)
fits_small w (pos n) e = grind arith
fits_small w (negsuc n) e = grind arith

smaller_fits : (w : ℕ) → 2 ≤ w → (x : ℤ) (n : ℕ) → in_width (Some w) (x *ℤ power_of x n) ≡ true → in_width (Some w) (power_of x n) ≡ true
smaller_fits w wide x n e = by (cases (nat_abs x))
  where
    cases : (m : ℕ) → (m ≤ 1) ⊎ (2 ≤ m)
    cases zero = inl (omega arith)
    cases (suc zero) = inl (omega arith)
    cases (suc (suc m)) = inr (omega arith)

    half : (a b k : ℕ) → 2 ≤ a → a * b ≤ k → 2 ≤ k → b < k
    half a b k h l q = let p : 2 * b ≤ a * b = mul-le-mul h (omega arith) in omega (arith, p, l, q)

    by : (nat_abs x ≤ 1) ⊎ (2 ≤ nat_abs x) → in_width (Some w) (power_of x n) ≡ true
    by (inl h) = let p = small_power x h n in let q = below_half w wide in small_fits w (power_of x n) (omega (arith, p, q))
    by (inr h) =
        let p = size_of_product x (power_of x n) in
        let q = fits_small w (x *ℤ power_of x n) e in
        small_fits w (power_of x n) (half (nat_abs x) (nat_abs (power_of x n)) (2 ^ (w - 1)) h (omega (arith, p, q)) (below_half w wide))

-- ---- powers in their shapes

one_times : (x : ℤ) → x *ℤ pos 1 ≡ x
unfolding IntN.one
one_times x = *ℤ-one x

times_between : (w : ℕ) (s : Shape) (a b x y : ℤ) → Between a b x → IsNum s y → in_width (Some w) (x *ℤ y) ≡ true →
    IsNum (over_both w (λ u v. u *ℤ v) s (Num a b)) (x *ℤ y)
times_between w _ a b x y h (is_num {a = c} {b = d} k) e =
    let m : x *ℤ y ≡ y *ℤ x = *ℤ_comm x y in
    let f : in_width (Some w) (y *ℤ x) ≡ true = subst (λ (z : ℤ). in_width (Some w) z ≡ true) m e in
    subst (λ (z : ℤ). IsNum (over_both w (λ u v. u *ℤ v) (Num c d) (Num a b)) z) (sym m)
    (is_num (moved_between w _ _ (y *ℤ x) (product_between c d a b y x k h) (width_between w (y *ℤ x) f)))

power_between : (w : ℕ) → 2 ≤ w → (a b x : ℤ) → Between a b x → (n : ℕ) → in_width (Some w) (power_of x (suc (suc n))) ≡ true →
    IsNum (power_shape w (suc (suc n)) (Num a b)) (power_of x (suc (suc n)))
power_between w wide a b x h zero e =
    let one : power_of x 1 ≡ x = one_times x in
    times_between w (Num a b) a b x (power_of x 1) h (subst (IsNum (Num a b)) (sym one) (is_num h)) e
power_between w wide a b x h (suc n) e =
    times_between w (power_shape w (suc (suc n)) (Num a b)) a b x (power_of x (suc (suc n))) h
    (power_between w wide a b x h n (smaller_fits w wide x (suc (suc n)) e)) e

num_fits : (a : Shape) (n : ℤ) → IsNum a n → Fits a (value.Int n)
num_fits _ n (is_num {a = a} {b = b} h) = fits_int a b n h

power_fits : (w : ℕ) (p : Place) → 2 ≤ w → (n : ℕ) (a b x : ℤ) → Between a b x → IfVal (Fits (power_shape w n (Num a b))) (number (Some w) p (power_of x n))
power_fits w p wide n a b x h = by (in_width (Some w) (power_of x n)) refl
  where
    at : (n : ℕ) → in_width (Some w) (power_of x n) ≡ true → Fits (power_shape w n (Num a b)) (value.Int (power_of x n))
    at zero e = fits_int (pos 1) (pos 1) (pos 1) (record { low = omega (arith, ints); high = omega (arith, ints) })
    at (suc zero) e = subst (λ (z : ℤ). Fits (Num a b) (value.Int z)) (sym (one_times x)) (fits_int a b x h)
    at (suc (suc n)) e = num_fits _ _ (power_between w wide a b x h n e)

    by : (c : Bool) → in_width (Some w) (power_of x n) ≡ c → IfVal (Fits (power_shape w n (Num a b))) (if c then Val (value.Int (power_of x n)) else Big p)
    by true e = at n e
    by false e = tt

-- ---- the row

exponent_is : (n : ℕ) (l : Literal) (as' : List Shape) (y : Value) → IsTrue (row_joins (a_power n) l as') → IsLiteral l y → y ≡ value.Int (pos n)
exponent_is n (rows.number (pos m)) as' y e s = s ∙ ap (λ (j : ℕ). value.Int (pos j)) (same m n e)
  where
    same : (m n : ℕ) → IsTrue (nat_eq m n) → m ≡ n
    same m n e = grind arith
exponent_is n (rows.number (negsuc m)) as' y e s = absurd (false≢true e)
exponent_is n (rows.text x) as' y e s = absurd (false≢true e)
exponent_is n no_literal as' y e s = absurd (false≢true e)

power_at : (w : ℕ) (p : Place) → 2 ≤ w → (n : ℕ) (a : Shape) (x : Layer Value) → FitsLayer a x → IfVal (Fits (power_shape w n a)) (on_numbers p (power (Some w) p) (x ∷ layer.Int (pos n) ∷ []))
power_at w p wide n a (layer.Int k) h = by a (number_of a k h)
  where
    by : (a : Shape) → IsNum a k → IfVal (Fits (power_shape w n a)) (number (Some w) p (power_of k n))
    by _ (is_num {a = a} {b = b} g) = power_fits w p wide n a b k g
power_at w p wide n a x h = tt

numbers_one : (P : Value → Type 0) (p : Place) (f : ℤ → ℤ → Outcome) (x : Layer Value) → IfVal P (on_numbers p f (x ∷ []))
numbers_one P p f (layer.Int m) = tt
numbers_one P p f x = tt

numbers_many : (P : Value → Type 0) (p : Place) (f : ℤ → ℤ → Outcome) (x y z : Layer Value) (ls : List (Layer Value)) → IfVal P (on_numbers p f (x ∷ y ∷ z ∷ ls))
numbers_many P p f (layer.Int m) (layer.Int n) z ls = tt
numbers_many P p f x y z ls = tt

pub power_gives : (w : ℕ) (p : Place) → 2 ≤ w → (n : ℕ) (as' : List Sized) (vs : List Value) → MeetAll as' vs → IsTrue (row_joins (a_power n) (index_of as') (shapes_of as')) →
    Gives w p op.Pow (a_power n) as' vs
power_gives w p wide n (a ∷ b ∷ []) (x ∷ y ∷ []) h e =
    let s = exponent_is n b.literal (a.shape ∷ b.shape ∷ []) y e h.1.0.1 in
    subst (λ (z : Layer Value). IfVal (Fits (power_shape w n a.shape)) (on_numbers p (power (Some w) p) (out-Value x ∷ z ∷ []))) (sym (ap out-Value s ∙ value.outs-Int (pos n)))
    (power_at w p wide n a.shape (out-Value x) h.0.0)
power_gives w p wide n as' [] h e = tt
power_gives w p wide n as' (x ∷ []) h e = numbers_one _ p _ (out-Value x)
power_gives w p wide n as' (x ∷ y ∷ z ∷ vs) h e = numbers_many _ p _ (out-Value x) (out-Value y) (out-Value z) (map out-Value vs)
power_gives w p wide n [] (x ∷ y ∷ []) h e = absurd h
power_gives w p wide n (a ∷ []) (x ∷ y ∷ []) h e = absurd h.1
power_gives w p wide n (a ∷ b ∷ c ∷ as') (x ∷ y ∷ []) h e = absurd h.1.1
