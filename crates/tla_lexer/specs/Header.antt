-- Where a module begins. Source: Specifying Systems, chapter 15, module TLAPlusGrammar.
use Rattle.std.specs.Prelude.{◌≡◌, ℕ, ◌-◌, ◌<◌, Bool, true, false, ◌&&◌, not, List, [], ◌∷◌, ◌++◌, length, take, drop, nat_le, codes, bytes_eq, if◌then◌else◌}
use Rattle.tla_values.specs.Names.{is_name_byte}
use Rattle.tla_lexer.specs.Classes.{is_dash, is_blank}

-- what stands behind the bytes that pass the test
abbrev pub behind_run : (ℕ → Bool) → List ℕ → List ℕ
behind_run p [] = []
behind_run p (b ∷ text) = if p b then behind_run p text else b ∷ text

-- a byte that is no letter, digit or `_`
abbrev pub begins_apart : List ℕ → Bool
begins_apart [] = false
begins_apart (b ∷ text) = not (is_name_byte b)

-- the word MODULE, and a byte that is no part of it
abbrev pub says_module : List ℕ → Bool
says_module text = bytes_eq (take 6 text) (codes "MODULE") && begins_apart (drop 6 text)

-- at least four `-`, then blanks or none, then the word MODULE
abbrev pub begins_header : List ℕ → Bool
begins_header text =
    nat_le 4 (length text - length (behind_run is_dash text)) && says_module (behind_run is_blank (behind_run is_dash text))

-- the file is what is ignored, and then the module: its header stands nowhere before
pub record IsModuleIn (file before text : List ℕ) : Type 0 where
  pub whole : file ≡ before ++ text
  pub begins : begins_header text ≡ true
  pub first : (front rest : List ℕ) → file ≡ front ++ rest → length front < length before → begins_header rest ≡ false

abbrev pub HasNoHeader : List ℕ → Type 0
HasNoHeader file = (front rest : List ℕ) → file ≡ front ++ rest → begins_header rest ≡ false
