-- What stands behind a backslash, and what stands behind a parenthesis that opens no comment.
use Rattle.std.proofs.Common.{◌≡◌, ℕ, Bool, true, false, cond, List, [], ◌∷◌, length, drop, Option, Some, None, sym, ◌∙◌, ap, arith, codes}
use Rattle.std.specs.Prelude.{◌==◌, ◌&&◌, bytes_eq}
use Rattle.std.specs.List.{list_all, list_any}
use Rattle.std.proofs.lemmas.Bool.{and_left, cond-false, eqb-true, false≢true, false_from_ne_true}
use Rattle.std.proofs.lemmas.Slice.Eq.{bytes_eq-Decides}
use Rattle.tla_values.specs.Names.{is_letter}
use Rattle.tla_lexer.specs.declared.pieces.Piece.{Piece}
use Rattle.tla_lexer.specs.declared.pieces.Piece.TheVariants.{LineComment, Bad}
use Rattle.tla_lexer.specs.Classes.{is_digit, is_line_feed, StartsIn, BeginsWith}
use Rattle.tla_lexer.specs.inner.Comments.{begins_with_pair}
use Rattle.tla_lexer.specs.Pieces.{symbol_or_bad, symbol_or_stray, backslash, is_octal, open_behind, block_comment, IsSymbolic}
use Rattle.tla_lexer.specs.Symbols.{symbol_of, NoSymbolPast}
use Rattle.tla_lexer.proofs.Heads.{reads_parenthesis, reads_backslash}
use Rattle.tla_lexer.proofs.SymbolLemmas.{short_unless_backslash, no_symbol_behind_backslash}

-- ---- `(` alone

not_second : (x y a b : ℕ) (t : List ℕ) → (a == x) ≡ true → begins_with_pair x y (a ∷ b ∷ t) ≡ false → (b == y) ≡ false
not_second x y a b t first apart = second (a == x) (b == y) first apart
  where
    second : (p q : Bool) → p ≡ true → (p && q) ≡ false → q ≡ false
    second true q e h = h
    second false q e h = cc

pub symbolic_parenthesis : (text : List ℕ) → StartsIn (λ b. b == 40) text → begins_with_pair 40 42 text ≡ false → IsSymbolic text
symbolic_parenthesis text starts apart [] rest e some = absurd (omega arith)
symbolic_parenthesis [] starts apart (x ∷ front) rest e some = absurd starts
symbolic_parenthesis (b ∷ text) starts apart (x ∷ []) rest e some =
    let same : b ≡ x = cc in
    let is : 40 ≡ x = sym (eqb-true b 40 starts) ∙ same in
    reads_parenthesis (b ∷ text) starts (x ∷ []) rest e some ∙ ap (λ y. symbol_or_stray (y ∷ [])) is
symbolic_parenthesis (b ∷ []) starts apart (x ∷ y ∷ front) rest e some = cc
symbolic_parenthesis (b ∷ c ∷ text) starts apart (x ∷ y ∷ front) rest e some =
    let same : b ≡ x = cc in
    let next : c ≡ y = cc in
    let is : 40 ≡ x = sym (eqb-true b 40 starts) ∙ same in
    reads_parenthesis (b ∷ c ∷ text) starts (x ∷ y ∷ front) rest e some
    ∙ cond-false (y == 42) (block_comment (open_behind 1 front)) (symbol_or_stray (40 ∷ y ∷ front)) (ap (λ z. z == 42) (sym next) ∙ not_second 40 42 b c text starts apart)
    ∙ ap (λ z. symbol_or_stray (z ∷ y ∷ front)) is

pub short_parenthesis : (text : List ℕ) → StartsIn (λ b. b == 40) text → NoSymbolPast text 3
short_parenthesis text starts = short_unless_backslash (λ b. b == 40) text (λ b h e. false≢true (sym (ap (λ c. c == 40) e) ∙ h)) starts

-- ---- `\` and no letter

abbrev backslash_whole : List ℕ → Option Piece
backslash_whole s = backslash (drop 1 s)

-- a beginning of what stands behind a backslash, where it is no comment and no word
not_octal : (c : ℕ) (t : List ℕ) → is_letter c ≡ false → is_octal (c ∷ t) ≡ false
not_octal c t apart =
    and_left (bytes_eq (c ∷ []) (codes "o") && list_all is_digit t) (length (c ∷ t) == 2)
    (and_left (bytes_eq (c ∷ []) (codes "o")) (list_all is_digit t)
    (false_from_ne_true (bytes_eq (c ∷ []) (codes "o")) (λ same.
    let e : c ≡ 111 = head ((bytes_eq-Decides (c ∷ []) (codes "o")).0 same) in
    false≢true (sym apart ∙ ap is_letter e))))
  where
    head : (c ∷ []) ≡ codes "o" → c ≡ 111
    head e = cc

behind_backslash : (c : ℕ) (t : List ℕ) → (c == 42) ≡ false → is_letter c ≡ false → backslash (c ∷ t) ≡ symbol_or_stray (92 ∷ c ∷ t)
behind_backslash c t star letter =
    cond-false (c == 42) (cond (list_any is_line_feed t) None (Some LineComment)) _ star
    ∙ cond-false (list_all is_letter (c ∷ t)) (Some (symbol_or_bad (92 ∷ c ∷ t))) _ (and_left (is_letter c) (list_all is_letter t) letter)
    ∙ cond-false (is_octal (c ∷ t)) (Some Bad) (symbol_or_stray (92 ∷ c ∷ t)) (not_octal c t letter)

pub symbolic_backslash : (text : List ℕ) → StartsIn (λ b. b == 92) text → begins_with_pair 92 42 text ≡ false → BeginsWith is_letter (drop 1 text) 0 → IsSymbolic text
symbolic_backslash text starts apart letters [] rest e some = absurd (omega arith)
symbolic_backslash [] starts apart letters (x ∷ front) rest e some = absurd starts
symbolic_backslash (b ∷ text) starts apart letters (x ∷ []) rest e some =
    let same : b ≡ x = cc in
    let is : 92 ≡ x = sym (eqb-true b 92 starts) ∙ same in
    reads_backslash (b ∷ text) starts (x ∷ []) rest e some ∙ ap (λ y. symbol_or_stray (y ∷ [])) is
symbolic_backslash (b ∷ []) starts apart letters (x ∷ y ∷ front) rest e some = cc
symbolic_backslash (b ∷ c ∷ text) starts apart letters (x ∷ y ∷ front) rest e some =
    let same : b ≡ x = cc in
    let next : c ≡ y = cc in
    let is : 92 ≡ x = sym (eqb-true b 92 starts) ∙ same in
    reads_backslash (b ∷ c ∷ text) starts (x ∷ y ∷ front) rest e some
    ∙ behind_backslash y front (ap (λ z. z == 42) (sym next) ∙ not_second 92 42 b c text starts apart) (ap is_letter (sym next) ∙ letters.stops)
    ∙ ap (λ z. symbol_or_stray (z ∷ y ∷ front)) is

pub short_backslash : (text : List ℕ) → StartsIn (λ b. b == 92) text → BeginsWith is_letter (drop 1 text) 0 → NoSymbolPast text 3
short_backslash text starts letters [] rest e long = absurd (omega arith)
short_backslash text starts letters (x ∷ []) rest e long = absurd (omega arith)
short_backslash text starts letters (x ∷ y ∷ []) rest e long = absurd (omega arith)
short_backslash [] starts letters (x ∷ y ∷ z ∷ front) rest e long = absurd starts
short_backslash (b ∷ []) starts letters (x ∷ y ∷ z ∷ front) rest e long = cc
short_backslash (b ∷ c ∷ text) starts letters (x ∷ y ∷ z ∷ front) rest e long =
    let same : b ≡ x = cc in
    let next : c ≡ y = cc in
    let is : x ≡ 92 = sym same ∙ eqb-true b 92 starts in
    ap (λ w. symbol_of (w ∷ y ∷ z ∷ front)) is
    ∙ no_symbol_behind_backslash (y ∷ z ∷ front) (and_left (is_letter y) (list_all is_letter (z ∷ front)) (ap is_letter (sym next) ∙ letters.stops))
    (two y z front)
  where
    two : (y z : ℕ) (t : List ℕ) → bytes_eq (y ∷ z ∷ t) (codes "/") ≡ false
    two y z t = false_from_ne_true (bytes_eq (y ∷ z ∷ t) (codes "/")) (λ same. longer ((bytes_eq-Decides (y ∷ z ∷ t) (codes "/")).0 same))
      where
        longer : (y ∷ z ∷ t) ≡ codes "/" → ⊥
        longer e = cc
