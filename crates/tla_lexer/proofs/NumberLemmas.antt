-- Numbers.
use Rattle.std.proofs.Common.{◌≡◌, ℕ, ◌+◌, ◌-◌, ◌*◌, ◌^◌, ◌<◌, ◌≤◌, List, [], ◌∷◌, length, take, drop, get_or, sym, ◌∙◌, ap, arith, fold}
use Rattle.std.specs.Prelude.{nat_lt, pos}
use Rattle.std.proofs.lemmas.Bool.{cond-false, le-ltb}
use Rattle.std.proofs.lemmas.List.{take-append-drop}
use Rattle.std.proofs.lemmas.List.Sums.{fold_more, fold-append}
use Rattle.tla_lexer.specs.declared.pieces.Piece.TheVariants.{Lexeme, BigNumber}
use Rattle.tla_lexer.specs.declared.token.TokenKind.TheVariants.{Number}
use Rattle.tla_lexer.specs.Pieces.{number, number_of}

abbrev next : ℕ → ℕ → ℕ
next n d = 10 * n + (d - 48)

grows : (n : ℕ) (digits : List ℕ) → n ≤ fold next n digits
grows n [] = omega arith
grows n (d ∷ digits) = omega (arith, grows (10 * n + (d - 48)) digits)

-- a number that is too big at some digit is too big
pub too_big : (digits : List ℕ) (i value : ℕ) → i < length digits → value ≡ number_of (take i digits) → 2 ^ 127 ≤ 10 * value + (get_or digits i 0 - 48) → BigNumber ≡ number digits
too_big digits i value lt so_far big =
    let more : number_of (take (i + 1) digits) ≡ 10 * value + (get_or digits i 0 - 48) =
    fold_more next 0 digits i 0 lt ∙ ap (λ n. 10 * n + (get_or digits i 0 - 48)) (sym so_far) in
    let whole : number_of digits ≡ fold next (number_of (take (i + 1) digits)) (drop (i + 1) digits) =
    ap number_of (sym (take-append-drop (i + 1) digits)) ∙ fold-append next 0 (take (i + 1) digits) (drop (i + 1) digits) in
    sym (cond-false (nat_lt (number_of digits) (2 ^ 127)) (Lexeme (Number (pos (number_of digits)))) BigNumber
    (le-ltb (number_of digits) (2 ^ 127) (omega (arith, grows (number_of (take (i + 1) digits)) (drop (i + 1) digits)))))
