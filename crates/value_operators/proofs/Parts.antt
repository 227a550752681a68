-- Parts of a row of numbers: those that lie from one number to another are a range, where the row holds this one.
use Rattle.std.proofs.Common.{◌≡◌, ℕ, zero, suc, ◌+◌, Bool, true, false, cond, ◌&&◌, List, [], ◌∷◌, ◌++◌, refl, sym, ◌∙◌, ap, ap₂, arith}
use Rattle.std.proofs.Common.{ℤ, pos, negsuc, ◌+ℤ◌, ◌-ℤ◌, ◌≤ℤ◌, ◌<ℤ◌, nat_abs}
use Rattle.std.specs.Prelude.{filter, int_le, if◌then◌else◌}
use Rattle.std.proofs.lemmas.Int.{ints, by_lt_z}
use Rattle.std.proofs.lemmas.Bool.Decides.{nat_tests}
use Rattle.std.proofs.lemmas.List.{append-nil}
use Rattle.std.proofs.lemmas.List.Elements.{filter-append}
use Rattle.tla_values.specs.declared.value.Value.{Value}
use Rattle.tla_values.specs.declared.value.Value.TheVariants as value
use Rattle.set_rewriter.specs.Ranges.{from_on, count_of, range, int_of, lies}
use Rattle.set_rewriter.proofs.Numbers.{int_of-int}

-- the test has one answer at n numbers from a on
pub record Answers (answer : Bool) (test : Value → Bool) (a : ℤ) (n : ℕ) : Type 0 where
  pub at : (k : ℤ) → a ≤ℤ k → k <ℤ (a +ℤ pos n) → test (value.Int k) ≡ answer

answers-first : (answer : Bool) (test : Value → Bool) (a : ℤ) (n : ℕ) → Answers answer test a (suc n) →
    test (value.Int a) ≡ answer
answers-first answer test a n h = h.at a (omega (arith, ints)) (omega (arith, ints))

answers-rest : (answer : Bool) (test : Value → Bool) (a : ℤ) (n : ℕ) → Answers answer test a (suc n) →
    Answers answer test (a +ℤ pos 1) n
answers-rest answer test a n h = record { at = λ k p q. h.at k (omega (arith, ints)) (omega (arith, ints)) }

none-of : (test : Value → Bool) (a : ℤ) (n : ℕ) → Answers false test a n → filter test (from_on a n) ≡ []
none-of test a zero h = refl
none-of test a (suc n) h =
    let rest : List Value = filter test (from_on (a +ℤ pos 1) n) in
    ap (λ t. cond t (value.Int a ∷ rest) rest) (answers-first false test a n h)
    ∙ none-of test (a +ℤ pos 1) n (answers-rest false test a n h)

all-of : (test : Value → Bool) (a : ℤ) (n : ℕ) → Answers true test a n → filter test (from_on a n) ≡ from_on a n
all-of test a zero h = refl
all-of test a (suc n) h =
    let rest : List Value = filter test (from_on (a +ℤ pos 1) n) in
    ap (λ t. cond t (value.Int a ∷ rest) rest) (answers-first true test a n h)
    ∙ ap (λ (l : List Value). value.Int a ∷ l) (all-of test (a +ℤ pos 1) n (answers-rest true test a n h))

from_on-append : (a : ℤ) (m n : ℕ) → from_on a (m + n) ≡ from_on a m ++ from_on (a +ℤ pos m) n
from_on-append a zero n =
    let k : zero + n ≡ n = omega arith in
    let e : a ≡ a +ℤ pos 0 = omega (arith, ints) in
    ap (from_on a) k ∙ ap (λ (z : ℤ). from_on z n) e
from_on-append a (suc m) n =
    let k : suc m + n ≡ suc (m + n) = omega arith in
    let e : (a +ℤ pos 1) +ℤ pos m ≡ a +ℤ pos (suc m) = omega (arith, ints) in
    let front : List Value = from_on (a +ℤ pos 1) m in
    ap (from_on a) k
    ∙ ap (λ (l : List Value). value.Int a ∷ l)
    (from_on-append (a +ℤ pos 1) m n ∙ ap (λ (z : ℤ). front ++ from_on z n) e)

-- ---- how many there are

pub steps-to : (a b : ℤ) → a ≤ℤ b → (n : ℕ) × (a +ℤ pos n ≡ b)
steps-to a b le = go (b -ℤ a) refl
  where
    go : (z : ℤ) → b -ℤ a ≡ z → (n : ℕ) × (a +ℤ pos n ≡ b)
    go (pos n) e = (n, omega (arith, ints))
    go (negsuc n) e = absurd (omega (arith, ints))

le-true : (a b : ℤ) → a ≤ℤ b → int_le a b ≡ true
le-true a b le = grind (arith, ints, nat_tests)

le-false : (a b : ℤ) → b <ℤ a → int_le a b ≡ false
le-false a b lt = grind (arith, ints, nat_tests)

abbrev counted : ℤ → ℤ → Bool → ℕ
counted a b t = if t then nat_abs (b -ℤ a) + 1 else 0

pub count-at : (a b : ℤ) (n : ℕ) → a +ℤ pos n ≡ b → count_of a b ≡ n + 1
count-at a b n e =
    let le : a ≤ℤ b = omega (arith, ints) in
    let d : b -ℤ a ≡ pos n = omega (arith, ints) in
    ap (counted a b) (le-true a b le) ∙ ap (λ (z : ℤ). nat_abs z + 1) d

count-none : (a b : ℤ) → b <ℤ a → count_of a b ≡ 0
count-none a b lt = ap (counted a b) (le-false a b lt)

-- ---- which of them lie from m to n

module _ (m n : ℤ) where
  abbrev inside : Value → Bool
  inside = lies (value.Int m) (value.Int n)

  lies-ints : (k : ℤ) → inside (value.Int k) ≡ (int_le m k && int_le k n)
  lies-ints k =
      let i : ℤ = int_of (value.Int k) in
      ap (λ (z : ℤ). int_le z i && int_le i (int_of (value.Int n))) (int_of-int m)
      ∙ ap (λ (z : ℤ). int_le m i && int_le i z) (int_of-int n)
      ∙ ap (λ (z : ℤ). int_le m z && int_le z n) (int_of-int k)

  lies-true : (k : ℤ) → m ≤ℤ k → k ≤ℤ n → inside (value.Int k) ≡ true
  lies-true k p q = lies-ints k ∙ ap (λ t. t && int_le k n) (le-true m k p) ∙ le-true k n q

  lies-under : (k : ℤ) → k <ℤ m → inside (value.Int k) ≡ false
  lies-under k lt = lies-ints k ∙ ap (λ t. t && int_le k n) (le-false m k lt)

  lies-over : (k : ℤ) → n <ℤ k → inside (value.Int k) ≡ false
  lies-over k lt = lies-ints k ∙ ap (λ t. int_le m k && t) (le-false k n lt) ∙ and-false (int_le m k)
    where
      and-false : (t : Bool) → (t && false) ≡ false
      and-false true = refl
      and-false false = refl

  lies-never : n <ℤ m → (k : ℤ) → inside (value.Int k) ≡ false
  lies-never lt k = by_lt_z k m (λ under. lies-under k under) (λ from. lies-over k (omega (arith, ints)))

  -- where there are none from m to n
  pub part-none : (low high : ℤ) → n <ℤ m → filter inside (range low high) ≡ range m n
  part-none low high lt =
      none-of inside low (count_of low high) (record { at = λ k p q. lies-never lt k })
      ∙ sym (ap (from_on m) (count-none m n lt))

  -- in a row of i before m, of those from m on, and of l behind n
  in-three : (low : ℤ) (i j l : ℕ) → low +ℤ pos i ≡ m → m +ℤ pos j ≡ n +ℤ pos 1 →
      filter inside (from_on low (i + (j + l))) ≡ from_on m j
  in-three low i j l before behind =
      let end : ℤ = m +ℤ pos j in
      let left : filter inside (from_on low i) ≡ [] =
      none-of inside low i (record { at = λ k p q. lies-under k (omega (arith, ints)) }) in
      let middle : filter inside (from_on m j) ≡ from_on m j =
      all-of inside m j (record { at = λ k p q. lies-true k p (omega (arith, ints)) }) in
      let right : filter inside (from_on end l) ≡ [] =
      none-of inside end l (record { at = λ k p q. lies-over k (omega (arith, ints)) }) in
      ap (filter inside) (from_on-append low i (j + l) ∙ ap (λ (z : ℤ). from_on low i ++ from_on z (j + l)) before)
      ∙ filter-append inside (from_on low i) (from_on m (j + l))
      ∙ ap₂ (λ (xs ys : List Value). xs ++ ys) left
      (ap (filter inside) (from_on-append m j l) ∙ filter-append inside (from_on m j) (from_on end l)
      ∙ ap₂ (λ (xs ys : List Value). xs ++ ys) middle right ∙ append-nil (from_on m j))

  -- where there are some, and all lie from low to high
  pub part-some : (low high : ℤ) → m ≤ℤ n → low ≤ℤ m → n ≤ℤ high → filter inside (range low high) ≡ range m n
  part-some low high le p q =
      let before = steps-to low m p in
      let within = steps-to m n le in
      let behind = steps-to n high q in
      let first = before.1 in
      let second = within.1 in
      let third = behind.1 in
      let total : low +ℤ pos (before.0 + within.0 + behind.0) ≡ high = omega (arith, ints) in
      let whole : count_of low high ≡ before.0 + ((within.0 + 1) + behind.0) =
      count-at low high (before.0 + within.0 + behind.0) total ∙ omega arith in
      ap (λ (c : ℕ). filter inside (from_on low c)) whole
      ∙ in-three low before.0 (within.0 + 1) behind.0 first (omega (arith, ints))
      ∙ sym (ap (from_on m) (count-at m n within.0 second))
