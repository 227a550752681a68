-- What stands next inside a text between quotes.
use Rattle.std.specs.Prelude.{◌≡◌, ℕ, ◌<◌, ◌≤◌, ◌++◌, None, Some, List, ◌∷◌, length, take}
use Rattle.tla_lexer.specs.declared.texts.Unit.{Unit as Next}
use Rattle.tla_lexer.specs.declared.texts.Unit.TheVariants.{Stands, Closes, Fails}
use Rattle.tla_lexer.specs.Pieces.{put, text_of}

-- n bytes of the rest stand for this byte of the text, whatever follows them
pub record StandsFor (rest : List ℕ) (byte n : ℕ) : Type 0 where
  pub some : 0 < n
  pub within : n ≤ length rest
  pub goes_on : (front : List ℕ) → text_of (take n rest ++ front) ≡ put (Some byte) (text_of front)

abbrev pub IsUnit : List ℕ → Next → Type 0
IsUnit rest (Stands byte n) = StandsFor rest byte n
IsUnit rest Closes = (behind : List ℕ) × (rest ≡ 34 ∷ behind)
IsUnit rest Fails = (front behind : List ℕ) → rest ≡ front ++ behind → text_of front ≡ None
