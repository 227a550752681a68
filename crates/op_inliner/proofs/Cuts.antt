-- Numbers that are cut at a limit.
use Rattle.std.proofs.Common.{◌≡◌, ◌≤◌, ◌<◌, ℕ, zero, suc, ◌+◌, ◌*◌, Bool, true, false, arith, nat_lt, refl, ap, ◌∙◌, sym, if◌then◌else◌}
use Rattle.std.proofs.lemmas.Bool.{ltb-true, ltb-false}
use Rattle.std.proofs.Math.Nat.{le-mul_of_pos_right, mul_comm}
use Rattle.op_inliner.specs.Answers.{up_to}

big_at : (l n : ℕ) (c : Bool) → nat_lt l n ≡ c → l ≤ n → (if c then l else n) ≡ l
big_at l n true e h = refl
big_at l n false e h = let k = ltb-false l n e in omega (arith, k, h)

pub up_big : (l n : ℕ) → l ≤ n → up_to l n ≡ l
up_big l n h = big_at l n (nat_lt l n) refl h

cut_at : (l a b : ℕ) (c d : Bool) → nat_lt l a ≡ c → nat_lt l b ≡ d → up_to l (a + b) ≡ up_to l ((if c then l else a) + (if d then l else b))
cut_at l a b true true e f = let k = ltb-true l a e in up_big l (a + b) (omega (arith, k)) ∙ sym (up_big l (l + l) (omega arith))
cut_at l a b true false e f = let k = ltb-true l a e in up_big l (a + b) (omega (arith, k)) ∙ sym (up_big l (l + b) (omega arith))
cut_at l a b false true e f = let k = ltb-true l b f in up_big l (a + b) (omega (arith, k)) ∙ sym (up_big l (a + l) (omega arith))
cut_at l a b false false e f = refl

-- sums may be cut at the limit at every step
pub cut_sum : (l a b : ℕ) → up_to l (a + b) ≡ up_to l (up_to l a + up_to l b)
cut_sum l a b = cut_at l a b (nat_lt l a) (nat_lt l b) refl refl

product_at : (l a b : ℕ) → zero < l → (c d : Bool) → nat_lt l a ≡ c → nat_lt l b ≡ d → up_to l (a * b) ≡ up_to l ((if c then l else a) * (if d then l else b))
product_at l a b h true true e f =
    let j = ltb-true l a e in
    let k = ltb-true l b f in
    let m = le-mul_of_pos_right {m = b} a (omega (arith, k)) in
    let n = le-mul_of_pos_right {m = l} l h in
    up_big l (a * b) (omega (arith, j, m)) ∙ sym (up_big l (l * l) n)
product_at l a zero h true false e f = ap (up_to l) (let i : a * 0 ≡ 0 = omega arith in let j : l * 0 ≡ 0 = omega arith in i ∙ sym j)
product_at l a (suc b) h true false e f =
    let j = ltb-true l a e in
    let m = le-mul_of_pos_right {m = suc b} a (omega arith) in
    let n = le-mul_of_pos_right {m = suc b} l (omega arith) in
    up_big l (a * suc b) (omega (arith, j, m)) ∙ sym (up_big l (l * suc b) n)
product_at l zero b h false true e f = ap (up_to l) (let i : 0 * b ≡ 0 = omega arith in let j : 0 * l ≡ 0 = omega arith in i ∙ sym j)
product_at l (suc a) b h false true e f =
    let j = ltb-true l b f in
    let m = le-mul_of_pos_right {m = suc a} b (omega arith) in
    let n = le-mul_of_pos_right {m = suc a} l (omega arith) in
    let i = mul_comm b (suc a) in
    let k = mul_comm l (suc a) in
    up_big l (suc a * b) (omega (arith, j, m, i)) ∙ sym (up_big l (suc a * l) (omega (arith, n, k)))
product_at l a b h false false e f = refl

-- and products
pub cut_product : (l a b : ℕ) → zero < l → up_to l (a * b) ≡ up_to l (up_to l a * up_to l b)
cut_product l a b h = product_at l a b h (nat_lt l a) (nat_lt l b) refl refl
