-- Decimal numbers in front of other bytes.
use Rattle.std.proofs.Common.{◌≡◌, ℕ, suc, ◌+◌, ◌-◌, ◌*◌, ◌<◌, ◌≤◌, ◌^◌, true, List, [], ◌∷◌, ◌++◌, length, take, get_or, refl, ap, ◌∙◌, sym, subst, arith, ◌&&◌, IsTrue, ℤ, pos, negsuc}
use Rattle.std.specs.Prelude.{min}
use Rattle.std.specs.List.{list_all}
use Rattle.std.specs.Fmt.{decimal, signed_decimal}
use Rattle.std.specs.Str.Parse.{AllDigits, IsNumeral, digits_value}
use Rattle.std.specs.Char.{digit_value}
use Rattle.std.proofs.lemmas.Bool.Decides.{nat_tests}
use Rattle.std.proofs.lemmas.Fmt.{decimal_is_IsNumeral_wide}
use Rattle.std.proofs.lemmas.Int.Digits.{digits_value_more}
use Rattle.std.proofs.lemmas.Str.{digit_value_digit}
use Rattle.std.proofs.lemmas.Str.Parse.{digit_at, digit_from_value}
use Rattle.tla_values.specs.Integers.{fits_width}
use Rattle.tla_values.specs.Show.{Ends, is_digit}
use Rattle.tla_values.proofs.TextLaw.{head_is, tail_is, fits_small}
use Rattle.trace_text.specs.inner.Reading.{IsRun, Stops}
use Rattle.trace_text.proofs.Runs.{left_of, right_of, one_run}

-- ---- what digits write

saturated : (m x n y d r : ℕ) → n ≡ min x m → y ≡ min (n * 10) m → r ≡ min (y + d) m → r ≡ min (x * 10 + d) m
saturated m x n y d r e f g = omega arith

-- one digit more
pub value_more : (word : List ℕ) (i n y d r : ℕ) → AllDigits 10 word → i < length word → n ≡ min (digits_value 10 (take i word)) (2 ^ 128 - 1) →
    y ≡ min (n * 10) (2 ^ 128 - 1) → d ≡ get_or word i 0 - 48 → r ≡ min (y + d) (2 ^ 128 - 1) → r ≡ min (digits_value 10 (take (i + 1) word)) (2 ^ 128 - 1)
value_more word i n y d r all lt e f g h =
    let digit = digit_value_digit (get_or word i 0) (digit_at word i all lt) in
    let value : digits_value 10 (take (i + 1) word) ≡ digits_value 10 (take i word) * 10 + d = omega (arith, digits_value_more 10 word i lt) in
    saturated (2 ^ 128 - 1) (digits_value 10 (take i word)) n y d r e f h ∙ ap (λ x. min x (2 ^ 128 - 1)) (sym value)

-- ---- digits as bytes

digit_value_small : (b : ℕ) → is_digit b ≡ true → digit_value b < 10
digit_value_small b h =
    let low : 48 ≤ b = grind (arith, nat_tests) in
    let high : b ≤ 57 = grind (arith, nat_tests) in
    omega (arith, digit_value_digit b (low, high))

pub digits_are : (ds : List ℕ) → list_all is_digit ds ≡ true → AllDigits 10 ds
digits_are [] h = tt
digits_are (d ∷ ds) h = (digit_value_small d (left_of (is_digit d) _ h), digits_are ds (right_of (is_digit d) _ h))

digit_passes : (d : ℕ) → digit_value d < 10 → is_digit d ≡ true
digit_passes d h = let within = digit_from_value d h in grind (arith, nat_tests)

digits_pass : (ds : List ℕ) → AllDigits 10 ds → list_all is_digit ds ≡ true
digits_pass [] h = refl
digits_pass (d ∷ ds) h = ap (λ b. b && list_all is_digit ds) (digit_passes d h.0) ∙ digits_pass ds h.1

pub first_digit : (m : ℕ) (r : List ℕ) (b : ℕ) (bs : List ℕ) → m < 10 ^ 64 → decimal m ++ r ≡ b ∷ bs → (48 ≤ b) × (b ≤ 57)
first_digit m r b bs small e = of_digits (decimal m) (decimal_is_IsNumeral_wide m small).0 e
  where
    of_digits : (ds : List ℕ) → IsNumeral 10 ds → ds ++ r ≡ b ∷ bs → (48 ≤ b) × (b ≤ 57)
    of_digits [] h k = absurd (omega (arith, h.0))
    of_digits (d ∷ ds) h k = subst (λ x. (48 ≤ x) × (x ≤ 57)) (head_is d b (ds ++ r) bs k) (digit_from_value d h.1.0)

-- ---- a number in front

-- the number that the run of digits in front writes
pub decimal_read : (bytes front rest : List ℕ) (n m : ℕ) (r : List ℕ) → IsRun is_digit bytes front rest →
    n ≡ min (digits_value 10 front) (2 ^ 128 - 1) → m ≤ 2 ^ 127 → Ends r → bytes ≡ decimal m ++ r → (n ≡ m) × (rest ≡ r)
decimal_read bytes front rest n m r run value small ends e =
    let numeral = decimal_is_IsNumeral_wide m (omega arith) in
    let same = one_run is_digit bytes front rest (decimal m) r run (digits_pass (decimal m) numeral.0.1) (stops r ends) e in
    let read : digits_value 10 front ≡ m = ap (digits_value 10) same.0 ∙ numeral.1 in
    (omega arith, same.1)
  where
    stops : (q : List ℕ) → Ends q → Stops is_digit q
    stops [] h = tt
    stops (b ∷ q) h = h

-- a number behind a minus is below 0, and one without it is not
module _ (bytes : List ℕ) (Q : ℤ → List ℕ → Type 0) where
  pub behind_minus : (digits : List ℕ) → bytes ≡ 45 ∷ digits →
      ((m : ℕ) (r : List ℕ) → m < 2 ^ 127 → Ends r → digits ≡ decimal (suc m) ++ r → Q (negsuc m) r) →
      (z : ℤ) (r : List ℕ) → IsTrue (fits_width 128 z) → Ends r → bytes ≡ signed_decimal z ++ r → Q z r
  behind_minus digits opened reads (pos m) r fits ends e =
      let small = fits_small m fits in
      let first = first_digit m r 45 digits (omega arith) (sym e ∙ opened) in
      absurd (omega (arith, first.0))
  behind_minus digits opened reads (negsuc m) r fits ends e =
      let small : m < 2 ^ 127 = grind (arith, nat_tests) in
      reads m r small ends (tail_is 45 45 _ _ (sym opened ∙ e))

  pub without_minus : ((rest : List ℕ) → bytes ≡ 45 ∷ rest → ⊥) →
      ((m : ℕ) (r : List ℕ) → m < 2 ^ 127 → Ends r → bytes ≡ decimal m ++ r → Q (pos m) r) →
      (z : ℤ) (r : List ℕ) → IsTrue (fits_width 128 z) → Ends r → bytes ≡ signed_decimal z ++ r → Q z r
  without_minus unsigned reads (pos m) r fits ends e =
      let small : m < 2 ^ 127 = grind (arith, nat_tests) in
      reads m r small ends e
  without_minus unsigned reads (negsuc m) r fits ends e = absurd (unsigned (decimal (suc m) ++ r) e)
