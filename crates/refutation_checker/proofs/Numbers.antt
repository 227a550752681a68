-- Decimal numbers as words.
use Rattle.std.proofs.Common.{◌≡◌, ℕ, zero, suc, ◌+◌, ◌*◌, ◌<◌, ◌≤◌, ◌^◌, ◌⊎◌, inl, inr, List, [], ◌∷◌, length, take, get_or, sym, subst, ◌∙◌, ap, arith}
use Rattle.std.specs.Prelude.{decimal, ◌==◌, false}
use Rattle.std.proofs.lemmas.Bool.{false≢true}
use Rattle.std.specs.Str.Parse.{AllDigits, digits_value}
use Rattle.std.proofs.lemmas.List.{length-take}
use Rattle.std.proofs.lemmas.Str.{digit_value_digit}
use Rattle.std.proofs.lemmas.Str.Parse.{IsNumeralModel, numerals_by_value, tells_digits, digits_value_short, digit_at, digit_from_value}
use Rattle.std.proofs.lemmas.Int.Digits.{digits_value_more, digits_more}
use Rattle.std.proofs.lemmas.Fmt.{decimal_digit, decimal_nonempty, length-decimal-le, first_decimal, digits_decimal, digits_value-decimal, decimal-digits_value, decimal_injective}
use Rattle.refutation_checker.specs.inner.Reading.{Lacks, SpellsNone}

own : IsNumeralModel (AllDigits 10) (digits_value 10)
own = numerals_by_value (AllDigits 10) tells_digits

-- at most 18 digits are below 10 ^ 18
pub value_fits : (word : List ℕ) (i n : ℕ) → length word ≤ 19 → i < length word → AllDigits 10 (take i word) → n ≡ digits_value 10 (take i word) → n < 10 ^ 18
value_fits word i n short lt digits e = rw e (digits_value_short own (take i word) 18 digits (omega (arith, length-take i word)))

pub value_more : (word : List ℕ) (i n b : ℕ) → i < length word → n ≡ digits_value 10 (take i word) → get_or word i 0 ≡ b + 48 → b < 10 → n * 10 + b ≡ digits_value 10 (take (i + 1) word)
value_more word i n b lt e at small =
    let digit = digit_value_digit (get_or word i 0) (omega arith, omega arith) in
    omega (arith, digits_value_more 10 word i lt)

pub digits_one_more : (word : List ℕ) (i : ℕ) → i < length word → AllDigits 10 (take i word) → 48 ≤ get_or word i 0 → get_or word i 0 ≤ 57 → AllDigits 10 (take (i + 1) word)
digits_one_more word i lt digits low high =
    digits_more 10 word i lt digits (omega (arith, digit_value_digit (get_or word i 0) (low, high)))

pub no_digit : (word : List ℕ) (i : ℕ) → i < length word → (get_or word i 0 < 48) ⊎ (57 < get_or word i 0) → AllDigits 10 word → ⊥
no_digit word i lt out digits =
    let within = digit_at word i digits lt in
    elim out [ inl low ↦ omega (arith, within.0) | inr high ↦ omega (arith, within.1) ]

-- what the digits of a number without leading zeros spell
pub spelled : (word : List ℕ) (n : ℕ) → AllDigits 10 word → n ≡ digits_value 10 word → 0 < length word → (get_or word 0 0 ≡ 48 → length word ≡ 1) → n < 2 ^ 63 → word ≡ decimal n
spelled word n digits e some first small =
    let fits : digits_value 10 word < 2 ^ 64 = omega arith in
    sym (decimal-digits_value own word digits some first fits) ∙ ap decimal (sym e)

pub value_of : (word : List ℕ) (n m : ℕ) → n ≡ digits_value 10 word → m < 2 ^ 63 → word ≡ decimal m → n ≡ m
value_of word n m e small w = e ∙ ap (digits_value 10) w ∙ digits_value-decimal own m (omega arith)

pub decimal_digits : (m : ℕ) → m < 2 ^ 63 → AllDigits 10 (decimal m)
decimal_digits m small = digits_decimal own m (omega arith)

pub decimal_some : (m : ℕ) → m < 2 ^ 63 → 0 < length (decimal m)
decimal_some m small = decimal_nonempty m (omega arith)

pub decimal_short : (m : ℕ) → m < 2 ^ 63 → length (decimal m) ≤ 19
decimal_short m small = length-decimal-le 19 m (omega arith) (omega arith) (omega arith)

pub no_leading_zero : (m : ℕ) → m < 2 ^ 63 → get_or (decimal m) 0 0 ≡ 48 → length (decimal m) ≡ 1
no_leading_zero zero small e = ap length (decimal_digit 0 (omega arith))
no_leading_zero (suc m) small e = absurd (omega (arith, first_decimal (suc m) (omega arith) (omega arith)))

pub decimal_same : (m n : ℕ) → m < 2 ^ 63 → n < 2 ^ 63 → decimal m ≡ decimal n → m ≡ n
decimal_same m n p q e = decimal_injective m n (omega arith) (omega arith) e

-- a byte below '0' is in no number
pub Lacks-digits : (b : ℕ) (ds : List ℕ) → b < 48 → AllDigits 10 ds → Lacks b ds
Lacks-digits b [] low a = tt
Lacks-digits b (d ∷ ds) low a =
    let digit = digit_from_value d a.0 in
    (λ e. omega (arith, digit.0), Lacks-digits b ds low a.1)

pub Lacks-decimal : (b m : ℕ) → b < 48 → m < 2 ^ 63 → Lacks b (decimal m)
Lacks-decimal b m low small = Lacks-digits b (decimal m) low (decimal_digits m small)

-- why a word is no number below a limit
pub none_empty : (word : List ℕ) (limit : ℕ) → limit ≤ 2 ^ 63 → length word ≡ 0 → SpellsNone decimal (λ n. n < limit) word
none_empty word limit h e n small w = omega (arith, decimal_some n (omega arith), ap length w)

pub none_long : (word : List ℕ) (limit : ℕ) → limit ≤ 2 ^ 63 → 19 < length word → SpellsNone decimal (λ n. n < limit) word
none_long word limit h long n small w = omega (arith, decimal_short n (omega arith), ap length w)

pub none_zero : (word : List ℕ) (limit : ℕ) → limit ≤ 2 ^ 63 → get_or word 0 0 ≡ 48 → 1 < length word → SpellsNone decimal (λ n. n < limit) word
none_zero word limit h first long n small w =
    omega (arith, no_leading_zero n (omega arith) (sym (ap (λ t. get_or t 0 0) w) ∙ first), ap length w)

pub none_digits : (word : List ℕ) (limit : ℕ) → limit ≤ 2 ^ 63 → (AllDigits 10 word → ⊥) → SpellsNone decimal (λ n. n < limit) word
none_digits word limit h none n small w = none (let P : List ℕ → Type 0 = AllDigits 10 in subst P (sym w) (decimal_digits n (omega arith)))

pub none_large : (word : List ℕ) (limit n : ℕ) → limit ≤ 2 ^ 63 → n ≡ digits_value 10 word → limit ≤ n → SpellsNone decimal (λ n. n < limit) word
none_large word limit n h e large m small w = omega (arith, value_of word n m e (omega arith) w)

-- numbers from 1 on
pub none_positive : (word : List ℕ) (limit n : ℕ) → limit ≤ 2 ^ 63 → n ≤ 0 → n < limit → word ≡ decimal n → (m : ℕ) → 0 < m → m < limit → word ≡ decimal m → ⊥
none_positive word limit n h none small e m some less w =
    omega (arith, decimal_same n m (omega arith) (omega arith) (sym e ∙ w))

pub decimal_zero : decimal 0 ≡ 48 ∷ []
decimal_zero = decimal_digit 0 (omega arith)

pub some_from_test : (n : ℕ) → (n == 0) ≡ false → 0 < n
some_from_test zero e = absurd (false≢true (sym e))
some_from_test (suc n) e = omega arith

pub Lacks-letter : (b m : ℕ) → 57 < b → m < 2 ^ 63 → Lacks b (decimal m)
Lacks-letter b m high small = go (decimal m) (decimal_digits m small)
  where
    go : (ds : List ℕ) → AllDigits 10 ds → Lacks b ds
    go [] a = tt
    go (d ∷ ds) a = (let digit = digit_from_value d a.0 in (λ e. omega (arith, digit.1)), go ds a.1)
