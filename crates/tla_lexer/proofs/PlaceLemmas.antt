-- Lines and columns, one piece after another.
use Rattle.std.proofs.Common.{◌≡◌, ℕ, ◌+◌, ◌-◌, ◌*◌, ◌/◌, ◌%◌, ◌<◌, ◌≤◌, cond, List, [], ◌∷◌, ◌++◌, length, take, drop, sym, ◌∙◌, ap, arith, fold, count_by}
use Rattle.std.specs.Prelude.{◌==◌, ◌&&◌, nat_le}
use Rattle.std.proofs.lemmas.Bool.{cond_both}
use Rattle.std.proofs.lemmas.List.{take-append-drop, length-take-le}
use Rattle.std.proofs.lemmas.List.Sums.{sum_by-append, fold-append}
use Rattle.tla_meaning.specs.declared.place.Place.{Place}
use Rattle.tla_lexer.specs.Classes.{is_line_feed}
use Rattle.tla_lexer.specs.Places.{next_column, line_behind, column_behind, place_behind}
use Rattle.tla_lexer.specs.Pieces.{IsFound}
use Rattle.tla_lexer.specs.declared.pieces.Piece.{Piece}
use Rattle.tla_lexer.proofs.Fronts.{read_on}

next_bounds : (c b : ℕ) → 0 < c → (0 < next_column c b) × (next_column c b ≤ c + 8)
next_bounds c b some =
    let P : ℕ → Type 0 = λ n. (0 < n) × (n ≤ c + 8) in
    cond_both (b == 10) 1 _ P (λ h. (omega arith, omega arith))
    (λ h. cond_both (b == 9) (8 * ((c - 1) / 8) + 9) _ P (λ k. (omega arith, tab))
    (λ k. cond_both (nat_le 128 b && nat_le b 191) c (c + 1) P (λ m. (some, omega arith)) (λ m. (omega arith, omega arith))))
  where
    tab : 8 * ((c - 1) / 8) + 9 ≤ c + 8
    tab = let r = (c - 1) % 8 in omega arith

column_bounds : (c : ℕ) (bytes : List ℕ) → 0 < c → (0 < fold next_column c bytes) × (fold next_column c bytes ≤ c + 8 * length bytes)
column_bounds c [] some = (some, omega arith)
column_bounds c (b ∷ bytes) some =
    let first = next_bounds c b some in
    let rest = column_bounds (next_column c b) bytes first.0 in
    (rest.0, omega (arith, rest.1, first.1))

-- the column behind the first `at` bytes is small
pub column_some : (bytes : List ℕ) (at column : ℕ) → column ≡ column_behind (take at bytes) → 0 < column
column_some bytes at column is = let h = (column_bounds 1 (take at bytes) (omega arith)).0 in omega (arith, h)

pub column_few : (bytes : List ℕ) (at column : ℕ) → at ≤ length bytes → column ≡ column_behind (take at bytes) → column ≤ 1 + 8 * at
column_few bytes at column within is =
    let h = (column_bounds 1 (take at bytes) (omega arith)).1 in omega (arith, h, length-take-le at bytes within)

take_more_bytes : (bytes : List ℕ) (at n : ℕ) → at ≤ length bytes → n ≤ length (drop at bytes) → take (at + n) bytes ≡ take at bytes ++ take n (drop at bytes)
take_more_bytes bytes at n within room =
    (read_on bytes (take n (drop at bytes)) (drop n (drop at bytes)) at n within (sym (take-append-drop n (drop at bytes))) (length-take-le n (drop at bytes) room)).1

pub line_on : (bytes spelling : List ℕ) (at n line next : ℕ) (piece : Piece) → at ≤ length bytes → IsFound (drop at bytes) piece n → spelling ≡ take n (drop at bytes)
    → line ≡ line_behind (take at bytes) → next ≡ line + count_by is_line_feed spelling → next ≡ line_behind (take (at + n) bytes)
line_on bytes spelling at n line next piece within is same so_far e =
    let whole = take_more_bytes bytes at n within is.within in
    e ∙ (let h : line + count_by is_line_feed spelling ≡ 1 + (count_by is_line_feed (take at bytes) + count_by is_line_feed spelling) = omega (arith, so_far) in h)
    ∙ ap (λ m. 1 + m) (ap (λ s. count_by is_line_feed (take at bytes) + count_by is_line_feed s) same
    ∙ sym (sum_by-append (λ x. cond (is_line_feed x) 1 0) (take at bytes) (take n (drop at bytes))) ∙ ap (count_by is_line_feed) (sym whole))

pub column_on : (bytes spelling : List ℕ) (at n column next : ℕ) (piece : Piece) → at ≤ length bytes → IsFound (drop at bytes) piece n → spelling ≡ take n (drop at bytes)
    → column ≡ column_behind (take at bytes) → next ≡ fold next_column column spelling → next ≡ column_behind (take (at + n) bytes)
column_on bytes spelling at n column next piece within is same so_far e =
    let whole = take_more_bytes bytes at n within is.within in
    e ∙ ap (fold next_column column) same ∙ ap (λ c. fold next_column c (take n (drop at bytes))) so_far
    ∙ sym (fold-append next_column 1 (take at bytes) (take n (drop at bytes))) ∙ ap column_behind (sym whole)

pub place_is : (file line column : ℕ) (before : List ℕ) (place : Place) → place ≡ record { file = file; line = line; col = column } → line ≡ line_behind before → column ≡ column_behind before → place ≡ place_behind file before
place_is file line column before place e line_is column_is =
    let P : ℕ → ℕ → Place = λ l c. record { file = file; line = l; col = c } in
    e ∙ ap (λ l. P l column) line_is ∙ ap (P (line_behind before)) column_is
