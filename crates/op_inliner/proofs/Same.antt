-- Numbers that are the same up to the limit, and sums at given numbers.
use Rattle.std.proofs.Common.{◌≡◌, ◌≤◌, ℕ, zero, suc, ◌+◌, ◌*◌, Bool, true, false, List, [], ◌∷◌, ◌++◌, map, length, take, drop, nat_lt, arith, refl, ap, ap₂, ◌∙◌, sym, if◌then◌else◌}
use Rattle.std.proofs.Math.Nat.{mul-add, mul_assoc, mul_comm}
use Rattle.op_inliner.specs.declared.sums.Sum.{Sum}
use Rattle.op_inliner.specs.Answers.{up_to}
use Rattle.op_inliner.specs.inner.Sums.{products, sum_at, limit, cut_sum_of, cut_product_of, add_factors, add_sums, times, combined, given}
use Rattle.op_inliner.proofs.Cuts.{cut_sum, cut_product, up_big}

abbrev pub Same : ℕ → ℕ → Type 0
Same a b = up_to limit a ≡ up_to limit b

pub same_add : (a b c d : ℕ) → Same a b → Same c d → Same (a + c) (b + d)
same_add a b c d e f =
    cut_sum limit a c ∙ ap₂ (λ x y. up_to limit (x + y)) e f ∙ sym (cut_sum limit b d)

pub same_mul : (a b c d : ℕ) → Same a b → Same c d → Same (a * c) (b * d)
same_mul a b c d e f =
    cut_product limit a c (omega arith) ∙ ap₂ (λ x y. up_to limit (x * y)) e f ∙ sym (cut_product limit b d (omega arith))

-- a number that is cut is the same
pub same_cut : (a : ℕ) → Same (up_to limit a) a
same_cut a = at (nat_lt limit a) refl
  where
    at : (b : Bool) → nat_lt limit a ≡ b → up_to limit (if b then limit else a) ≡ (if b then limit else a)
    at true e = up_big limit limit (omega arith)
    at false e = ap (λ (b : Bool). if b then limit else a) e

pub same_one : (a b : ℕ) → a ≡ b → Same a b
same_one a b e = ap (up_to limit) e

-- ---- sums at numbers

add_mul : (a b c : ℕ) → (a + b) * c ≡ a * c + b * c
add_mul a b c = mul_comm (a + b) c ∙ mul-add c a b ∙ ap₂ (λ x y. x + y) (mul_comm c a) (mul_comm c b)

products_add : (us vs xs : List ℕ) → Same (products (add_factors us vs) xs) (products us xs + products vs xs)
products_add [] vs xs = same_one (products vs xs) (0 + products vs xs) (omega arith)
products_add (u ∷ us) [] xs = same_one (products (u ∷ us) xs) (products (u ∷ us) xs + 0) (omega arith)
products_add (u ∷ us) (v ∷ vs) [] = refl
products_add (u ∷ us) (v ∷ vs) (x ∷ xs) =
    same_add (cut_sum_of u v * x) ((u + v) * x) (products (add_factors us vs) xs) (products us xs + products vs xs)
    (same_mul (cut_sum_of u v) (u + v) x x (same_cut (u + v)) refl) (products_add us vs xs)
    ∙ same_one ((u + v) * x + (products us xs + products vs xs)) ((u * x + products us xs) + (v * x + products vs xs)) (let i = add_mul u v x in omega (arith, i))

pub sum_add : (xs : List ℕ) (s t : Sum) → Same (sum_at xs (add_sums s t)) (sum_at xs s + sum_at xs t)
sum_add xs s t =
    same_add (cut_sum_of s.base t.base) (s.base + t.base) (products (add_factors s.factors t.factors) xs) (products s.factors xs + products t.factors xs)
    (same_cut (s.base + t.base)) (products_add s.factors t.factors xs)
    ∙ same_one ((s.base + t.base) + (products s.factors xs + products t.factors xs)) (sum_at xs s + sum_at xs t) (omega arith)

products_times : (a : ℕ) (us xs : List ℕ) → Same (products (map (cut_product_of a) us) xs) (a * products us xs)
products_times a [] xs = same_one 0 (a * 0) (omega arith)
products_times a (u ∷ us) [] = same_one 0 (a * 0) (omega arith)
products_times a (u ∷ us) (x ∷ xs) =
    same_add (cut_product_of a u * x) ((a * u) * x) (products (map (cut_product_of a) us) xs) (a * products us xs)
    (same_mul (cut_product_of a u) (a * u) x x (same_cut (a * u)) refl) (products_times a us xs)
    ∙ same_one ((a * u) * x + a * products us xs) (a * (u * x + products us xs))
    (let i = mul_assoc a u x in let j = mul-add a (u * x) (products us xs) in omega (arith, i, j))

sum_times : (xs : List ℕ) (a : ℕ) (s : Sum) → Same (sum_at xs (times a s)) (a * sum_at xs s)
sum_times xs a s =
    same_add (cut_product_of a s.base) (a * s.base) (products (map (cut_product_of a) s.factors) xs) (a * products s.factors xs)
    (same_cut (a * s.base)) (products_times a s.factors xs)
    ∙ same_one (a * s.base + a * products s.factors xs) (a * sum_at xs s) (sym (mul-add a s.base (products s.factors xs)))

sum_combined : (xs us : List ℕ) (ss : List Sum) → Same (sum_at xs (combined us ss)) (products us (map (sum_at xs) ss))
sum_combined xs [] ss = refl
sum_combined xs (u ∷ us) [] = refl
sum_combined xs (u ∷ us) (s ∷ ss) =
    sum_add xs (times u s) (combined us ss)
    ∙ same_add (sum_at xs (times u s)) (u * sum_at xs s) (sum_at xs (combined us ss)) (products us (map (sum_at xs) ss)) (sum_times xs u s) (sum_combined xs us ss)

products_split : (m : ℕ) (us xs ys : List ℕ) → m ≤ length xs → products us (take m xs ++ ys) ≡ products (take m us) xs + products (drop m us) ys
products_split zero us xs ys h = omega arith
products_split (suc m) [] xs ys h = refl
products_split (suc m) (u ∷ us) [] ys h = absurd (omega (arith, h))
products_split (suc m) (u ∷ us) (x ∷ xs) ys h = let i = products_split m us xs ys (omega (arith, h)) in omega (arith, i)

-- a sum whose last unknowns are sums
pub sum_given : (m : ℕ) (xs : List ℕ) (ss : List Sum) (s : Sum) → m ≤ length xs →
    Same (sum_at xs (given m ss s)) (sum_at (take m xs ++ map (sum_at xs) ss) s)
sum_given m xs ss s h =
    let front : Sum = record { base = s.base; factors = take m s.factors } in
    sum_add xs front (combined (drop m s.factors) ss)
    ∙ same_add (sum_at xs front) (sum_at xs front) (sum_at xs (combined (drop m s.factors) ss)) (products (drop m s.factors) (map (sum_at xs) ss)) refl
    (sum_combined xs (drop m s.factors) ss)
    ∙ same_one (sum_at xs front + products (drop m s.factors) (map (sum_at xs) ss)) (sum_at (take m xs ++ map (sum_at xs) ss) s)
    (let i = products_split m s.factors xs (map (sum_at xs) ss) h in omega (arith, i))

-- ---- the same numbers give the same sums

abbrev pub AllSame : List ℕ → List ℕ → Type 0
AllSame [] [] = Unit {0}
AllSame [] (y ∷ ys) = ⊥
AllSame (x ∷ xs) [] = ⊥
AllSame (x ∷ xs) (y ∷ ys) = Same x y × AllSame xs ys

products_same : (us xs ys : List ℕ) → AllSame xs ys → Same (products us xs) (products us ys)
products_same [] xs ys h = refl
products_same (u ∷ us) [] [] h = refl
products_same (u ∷ us) [] (y ∷ ys) h = absurd h
products_same (u ∷ us) (x ∷ xs) [] h = absurd h
products_same (u ∷ us) (x ∷ xs) (y ∷ ys) h =
    same_add (u * x) (u * y) (products us xs) (products us ys) (same_mul u u x y refl h.0) (products_same us xs ys h.1)

pub sum_same : (xs ys : List ℕ) (s : Sum) → AllSame xs ys → Same (sum_at xs s) (sum_at ys s)
sum_same xs ys s h = same_add s.base s.base (products s.factors xs) (products s.factors ys) refl (products_same s.factors xs ys h)
