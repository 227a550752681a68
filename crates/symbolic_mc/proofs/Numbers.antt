-- Numbers in the words.
use Rattle.std.proofs.Common.{◌≡◌, ℕ, ◌^◌, ◌<◌, ◌≤◌, Bool, true, false, List, [], ◌∷◌, length, Some, None, Result, refl, ◌∙◌, ap, subst, arith}
use Rattle.std.specs.Prelude.{◌&&◌, nat_lt, nat_le, if◌then◌else◌, Err}
use Rattle.std.specs.Result.{OkIff}
use Rattle.std.specs.Char.{is_ascii_digit}
use Rattle.std.specs.List.{list_all}
use Rattle.std.specs.Str.{all_ascii_digits}
use Rattle.std.specs.Str.Parse.{digits_value, ParsesUnsigned}
use Rattle.std.proofs.lemmas.Str.Parse.{parse_digits, numerals_by_value, tells_all_ascii_digits}
use Rattle.std.proofs.lemmas.Bool.{and_parts, ltb-true, leb-true}
use Rattle.symbolic_mc.specs.Words.{number_of}

same_digits : (ds : List ℕ) → all_ascii_digits ds ≡ list_all is_ascii_digit ds
same_digits [] = refl
same_digits (d ∷ ds) = ap (λ (b : Bool). is_ascii_digit d && b) (same_digits ds)

-- digits that are no number of this type are too many, or none
pub no_number : {E : Type 0} (least greatest : ℕ) (ds : List ℕ) (r : Result ℕ E) (e : E) → greatest < 2 ^ 64 → list_all is_ascii_digit ds ≡ true → r ≡ Err e → ParsesUnsigned 64 10 ds r
    → None ≡ number_of least greatest ds
no_number {E = E} least greatest ds r e bound digits failed parses =
    let tells = subst (λ (x : Result ℕ E). OkIff x ((0 < length ds) × (digits_value 10 ds < 2 ^ 64)) (digits_value 10 ds)) failed
    (parse_digits (numerals_by_value _ tells_all_ascii_digits) 64 ds r parses (same_digits ds ∙ digits)) in
    let n = digits_value 10 ds in
    by_test (list_all is_ascii_digit ds && nat_lt 0 (length ds) && nat_le least n && nat_le n greatest) n (λ all.
    let parts = and_parts (list_all is_ascii_digit ds && nat_lt 0 (length ds) && nat_le least n) (nat_le n greatest) all in
    let first = and_parts (list_all is_ascii_digit ds && nat_lt 0 (length ds)) (nat_le least n) parts.0 in
    let some : 0 < length ds = ltb-true 0 (length ds) (and_parts (list_all is_ascii_digit ds) (nat_lt 0 (length ds)) first.0).1 in
    let few : n ≤ greatest = leb-true n greatest parts.1 in
    tells (some, omega arith))
  where
    by_test : (t : Bool) (n : ℕ) → (t ≡ true → ⊥) → None ≡ (if t then Some n else None)
    by_test true n h = absurd (h refl)
    by_test false n h = refl
