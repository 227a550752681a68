-- What a caller's answer says of the files and of the sink that were handed in.
use Rattle.std.specs.Prelude.{◌≡◌, ◌⊎◌, ℕ, ◌+◌, ◌-◌, ◌^◌, ◌<◌, ◌≤◌, min, List, length, take, Option, Some, IfSome}
use Rattle.std.specs.Io.KnownBytes.{Appends}
use Rattle.tool_outside.specs.Outside.{Folder, file_at}

-- no fault rose: a count is as it was, and isn't at the end of its range
abbrev pub Stayed : ℕ → ℕ → Type 0
Stayed before now = now < min (before + 1) (2 ^ 64 - 1)

-- the files hold this at the name, where they are told
abbrev pub Holds : Option Folder → List ℕ → Option (List ℕ) → Type 0
Holds held name file = IfSome held (λ folder. file_at folder name ≡ file)

-- the file of the name has more bytes than the limit, where the files are told
abbrev pub IsLong : Option Folder → List ℕ → ℕ → Type 0
IsLong held name limit = IfSome held (λ folder. (bytes : List ℕ) × (file_at folder name ≡ Some bytes) × (limit < length bytes))

-- these bytes were handed out for the name
pub record HandedOut (held : Option Folder) (name : List ℕ) (limit : ℕ) (bytes : List ℕ) : Type 0 where
  pub told : Holds held name (Some bytes)
  pub within : length bytes ≤ limit

-- a prefix of the report was written
abbrev pub WritesPrefix : Option (List ℕ) → Option (List ℕ) → List ℕ → Type 0
WritesPrefix old new report = (count : ℕ) × Appends old new (take count report)

-- the file is as before, or holds a prefix of the bytes
abbrev pub IsCut : List ℕ → Option (List ℕ) → Option (List ℕ) → Type 0
IsCut bytes old new = (new ≡ old) ⊎ ((count : ℕ) × (new ≡ Some (take count bytes)))
