-- A run of blanks is the longest piece.
use Rattle.std.proofs.Common.{◌≡◌, ℕ, Bool, true, false, List, [], ◌∷◌, take, Some, None, refl, arith}
use Rattle.std.specs.Prelude.{◌&&◌}
use Rattle.std.specs.List.{list_all}
use Rattle.std.proofs.lemmas.Bool.{and_parts, cond-true, cond-false}
use Rattle.tla_lexer.specs.declared.pieces.Piece.TheVariants.{Blanks}
use Rattle.tla_lexer.specs.Classes.{is_blank, StartsIn, BeginsWith}
use Rattle.tla_lexer.specs.Pieces.{IsFound}
use Rattle.tla_lexer.proofs.Fronts.{some_run, longer_fails, StartsIn-front}
use Rattle.tla_lexer.proofs.Heads.{found, reads_blanks, blanks_whole}

all_blank : (s : List ℕ) → list_all is_blank s ≡ true → blanks_whole s ≡ Some Blanks
all_blank [] h = refl
all_blank (b ∷ s) h = cond-true (list_all is_blank s) _ _ (and_parts (is_blank b) (list_all is_blank s) h).1

not_all_blank : (s : List ℕ) → StartsIn is_blank s → list_all is_blank s ≡ false → blanks_whole s ≡ None
not_all_blank [] starts h = absurd starts
not_all_blank (b ∷ s) starts h = cond-false (list_all is_blank s) _ _ (and_false (is_blank b) (list_all is_blank s) starts h)
  where
    and_false : (x y : Bool) → x ≡ true → (x && y) ≡ false → y ≡ false
    and_false true y e f = f
    and_false false y e f = cc

pub blanks_found : (text : List ℕ) (n : ℕ) → StartsIn is_blank text → BeginsWith is_blank text n → IsFound text Blanks n
blanks_found text n starts run =
    found blanks_whole text Blanks n (reads_blanks text starts) (some_run is_blank text n starts run) run.within (all_blank (take n text) run.pass)
    (λ front rest e lt. not_all_blank front (StartsIn-front is_blank text front rest e (omega arith) starts) (longer_fails is_blank text front rest n run e lt))
