-- What the first byte says of a piece.
use Rattle.std.proofs.Common.{◌≡◌, ℕ, ◌<◌, ◌≤◌, Bool, true, false, cond, List, [], ◌∷◌, ◌++◌, length, take, drop, Option, Some, None, refl, sym, ◌∙◌, ap, arith, ⊎_elim}
use Rattle.std.specs.Prelude.{◌==◌, ◌&&◌, ◌||◌, not, if◌then◌else◌}
use Rattle.std.specs.List.{list_all}
use Rattle.std.proofs.lemmas.Bool.{or_cases, eqb-true, cond-true, cond-false}
use Rattle.std.proofs.lemmas.List.{take-append-drop, length-take-le}
use Rattle.tla_values.specs.Names.{is_name_byte}
use Rattle.tla_lexer.specs.declared.pieces.Piece.{Piece}
use Rattle.tla_lexer.specs.declared.pieces.Piece.TheVariants.{Blanks}
use Rattle.tla_lexer.specs.Classes.{is_blank, is_dash, is_equal_sign, StartsIn}
use Rattle.tla_lexer.specs.Pieces.{piece_of, word, quoted, parenthesis, backslash, dashes, equal_signs, less, symbol_or_stray, is_other, IsFound, IsSymbolic}
use Rattle.tla_lexer.proofs.Fronts.{StartsIn-front}

-- the kind of piece that the first byte tells
abbrev pub ReadAs : (List ℕ → Option Piece) → List ℕ → Type 0
ReadAs kind text = (front rest : List ℕ) → text ≡ front ++ rest → 0 < length front → piece_of front ≡ kind front

-- how the longest piece is found among those of a kind
pub found : (kind : List ℕ → Option Piece) (text : List ℕ) (piece : Piece) (n : ℕ) → ReadAs kind text → 0 < n → n ≤ length text
    → kind (take n text) ≡ Some piece → ((front rest : List ℕ) → text ≡ front ++ rest → n < length front → kind front ≡ None) → IsFound text piece n
found kind text piece n reads some within is none =
    let whole : text ≡ take n text ++ drop n text = sym (take-append-drop n text) in
    let size : length (take n text) ≡ n = length-take-le n text within in
    record {
      some = some;
      within = within;
      is_longest = record {
        is_piece = reads (take n text) (drop n text) whole (omega arith) ∙ is;
        longest = λ front rest e lt. reads front rest e (omega arith) ∙ none front rest e (omega arith);
      };
    }

reads : (p : ℕ → Bool) (kind : List ℕ → Option Piece) → ((b : ℕ) (rest : List ℕ) → p b ≡ true → piece_of (b ∷ rest) ≡ kind (b ∷ rest))
    → (text : List ℕ) → StartsIn p text → ReadAs kind text
reads p kind head text starts [] rest e some = absurd (omega arith)
reads p kind head text starts (b ∷ front) rest e some = head b front (StartsIn-front p text (b ∷ front) rest e some starts)

-- ---- each first byte

abbrev pub blanks_whole : List ℕ → Option Piece
blanks_whole s = if list_all is_blank (drop 1 s) then Some Blanks else None

abbrev behind_first : (List ℕ → Option Piece) → List ℕ → Option Piece
behind_first kind s = kind (drop 1 s)

-- a blank is no letter, digit or `_`
blank_apart : (b : ℕ) → is_blank b ≡ true → is_name_byte b ≡ false
blank_apart b h =
    ⊎_elim (λ h4. ⊎_elim (λ h3. ⊎_elim (λ h2. ⊎_elim (λ h1. at 32 refl h1) (λ h1. at 9 refl h1) (or_cases (b == 32) (b == 9) h2)) (λ h2. at 10 refl h2) (or_cases (b == 32 || b == 9) (b == 10) h3)) (λ h3. at 12 refl h3) (or_cases (b == 32 || b == 9 || b == 10) (b == 12) h4)) (λ h4. at 13 refl h4) (or_cases (b == 32 || b == 9 || b == 10 || b == 12) (b == 13) h)
  where
    at : (n : ℕ) → is_name_byte n ≡ false → (b == n) ≡ true → is_name_byte b ≡ false
    at n apart e = ap is_name_byte (eqb-true b n e) ∙ apart

pub reads_word : (text : List ℕ) → StartsIn is_name_byte text → ReadAs word text
unfolding piece_of
reads_word text starts = reads is_name_byte word (λ b rest h. cond-true (is_name_byte b) _ _ h) text starts

pub reads_blanks : (text : List ℕ) → StartsIn is_blank text → ReadAs blanks_whole text
unfolding piece_of
reads_blanks text starts = reads is_blank blanks_whole (λ b rest h. cond-false (is_name_byte b) _ _ (blank_apart b h) ∙ cond-true (is_blank b) _ _ h) text starts

pub reads_quoted : (text : List ℕ) → StartsIn (λ b. b == 34) text → ReadAs (behind_first quoted) text
unfolding piece_of
reads_quoted text starts = reads (λ b. b == 34) (behind_first quoted) (λ b rest h. ap (λ x. piece_of (x ∷ rest)) (eqb-true b 34 h)) text starts

pub reads_parenthesis : (text : List ℕ) → StartsIn (λ b. b == 40) text → ReadAs (behind_first parenthesis) text
unfolding piece_of
reads_parenthesis text starts = reads (λ b. b == 40) (behind_first parenthesis) (λ b rest h. ap (λ x. piece_of (x ∷ rest)) (eqb-true b 40 h)) text starts

pub reads_backslash : (text : List ℕ) → StartsIn (λ b. b == 92) text → ReadAs (behind_first backslash) text
unfolding piece_of
reads_backslash text starts = reads (λ b. b == 92) (behind_first backslash) (λ b rest h. ap (λ x. piece_of (x ∷ rest)) (eqb-true b 92 h)) text starts

pub reads_dashes : (text : List ℕ) → StartsIn is_dash text → ReadAs dashes text
unfolding piece_of
reads_dashes text starts =
    reads is_dash dashes (λ b rest h. let e = eqb-true b 45 h in ap (λ x. piece_of (x ∷ rest)) e ∙ ap (λ x. dashes (x ∷ rest)) (sym e)) text starts

pub reads_equal_signs : (text : List ℕ) → StartsIn is_equal_sign text → ReadAs equal_signs text
unfolding piece_of
reads_equal_signs text starts =
    reads is_equal_sign equal_signs (λ b rest h. let e = eqb-true b 61 h in ap (λ x. piece_of (x ∷ rest)) e ∙ ap (λ x. equal_signs (x ∷ rest)) (sym e)) text starts

pub reads_less : (text : List ℕ) → StartsIn (λ b. b == 60) text → ReadAs (behind_first less) text
unfolding piece_of
reads_less text starts = reads (λ b. b == 60) (behind_first less) (λ b rest h. ap (λ x. piece_of (x ∷ rest)) (eqb-true b 60 h)) text starts

-- all eight tests fail
last_of_eight : {X : Type 0} (a b c d e f g h : Bool) (s t u v w x y z last : X) → (not a && not b && not c && not d && not e && not f && not g && not h) ≡ true
    → cond a s (cond b t (cond c u (cond d v (cond e w (cond f x (cond g y (cond h z last))))))) ≡ last
last_of_eight true b c d e f g h s t u v w x y z last fail = cc
last_of_eight false true c d e f g h s t u v w x y z last fail = cc
last_of_eight false false true d e f g h s t u v w x y z last fail = cc
last_of_eight false false false true e f g h s t u v w x y z last fail = cc
last_of_eight false false false false true f g h s t u v w x y z last fail = cc
last_of_eight false false false false false true g h s t u v w x y z last fail = cc
last_of_eight false false false false false false true h s t u v w x y z last fail = cc
last_of_eight false false false false false false false true s t u v w x y z last fail = cc
last_of_eight false false false false false false false false s t u v w x y z last fail = refl

pub symbolic_other : (text : List ℕ) → StartsIn is_other text → IsSymbolic text
unfolding piece_of
symbolic_other text starts =
    reads is_other symbol_or_stray
    (λ b rest h. last_of_eight (is_name_byte b) (is_blank b) (b == 34) (b == 40) (b == 92) (b == 45) (b == 61) (b == 60) _ _ _ _ _ _ _ _ _ h) text starts
