-- What stands next inside a comment.
use Rattle.std.specs.Prelude.{◌≡◌, ℕ, Bool, true, false, ◌&&◌, List, [], ◌∷◌, ◌==◌}
use Rattle.tla_lexer.specs.declared.comments.Mark.{Mark}
use Rattle.tla_lexer.specs.declared.comments.Mark.TheVariants.{Opens, Closes, Neither}

-- whether the two bytes stand at the front
abbrev pub begins_with_pair : ℕ → ℕ → List ℕ → Bool
begins_with_pair x y [] = false
begins_with_pair x y (b ∷ []) = false
begins_with_pair x y (b ∷ c ∷ rest) = b == x && c == y

-- `(*`, `*)` or neither
abbrev pub IsMark : List ℕ → Mark → Type 0
IsMark text Opens = begins_with_pair 40 42 text ≡ true
IsMark text Closes = begins_with_pair 42 41 text ≡ true
IsMark text Neither = (begins_with_pair 40 42 text ≡ false) × (begins_with_pair 42 41 text ≡ false)
