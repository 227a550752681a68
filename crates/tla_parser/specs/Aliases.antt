-- The aliases of types that notes give, `@typeAlias: name = T;`. Source: the Apalache manual, on type aliases.
use Rattle.std.specs.Prelude.{ℕ, Bool, not, cond, List, Option, Some, None, codes, ◌==◌, ◌||◌, ◌++◌, ◌∷◌, []}
use Rattle.tla_lexer.specs.Classes.{is_blank}
use Rattle.tla_lexer.specs.declared.token.Token.{Token}
use Rattle.tla_values.specs.Names.{is_name_byte}

-- neither `;` nor `@`, which stands in no type
abbrev pub in_type : ℕ → Bool
in_type b = not (b == 59 || b == 64)

-- the bytes at the front that pass, and what stands behind them
abbrev pub front : (ℕ → Bool) → List ℕ → List ℕ
front p [] = []
front p (b ∷ text) = cond (p b) (b ∷ front p text) []

abbrev pub past : (ℕ → Bool) → List ℕ → List ℕ
past p [] = []
past p (b ∷ text) = cond (p b) (past p text) (b ∷ text)

-- what stands behind this beginning
abbrev pub behind : List ℕ → List ℕ → Option (List ℕ)
behind [] text = Some text
behind (b ∷ bs) [] = None
behind (b ∷ bs) (c ∷ text) = cond (b == c) (behind bs text) None

abbrev pub Alias : Type 0
Alias = List ℕ × List ℕ

-- a `;` ends the type
abbrev pub ended : List ℕ → List ℕ → List ℕ → Option Alias
ended name t [] = None
ended name t (b ∷ text) = cond (b == 59) (Some (name, t)) None

abbrev pub type_in : List ℕ → List ℕ → Option Alias
type_in name text = ended name (front in_type text) (past in_type text)

abbrev pub equal_to : List ℕ → Option (List ℕ) → Option Alias
equal_to [] rest = None
equal_to (b ∷ name) None = None
equal_to (b ∷ name) (Some text) = type_in (b ∷ name) text

abbrev pub name_in : List ℕ → Option Alias
name_in text = equal_to (front is_name_byte text) (behind (codes "=") (past is_blank (past is_name_byte text)))

abbrev pub begun_in : Option (List ℕ) → Option Alias
begun_in None = None
begun_in (Some text) = name_in (past is_blank text)

-- the alias at the front of the text
abbrev pub alias_at : List ℕ → Option Alias
alias_at text = begun_in (behind (codes "@typeAlias:") text)

abbrev pub first_of : Option Alias → List Alias → List Alias
first_of None others = others
first_of (Some a) others = a ∷ others

-- at each place of the text
abbrev pub aliases_in : List ℕ → List Alias
aliases_in [] = []
aliases_in (b ∷ text) = first_of (alias_at (b ∷ text)) (aliases_in text)

-- in the notes of the tokens
abbrev pub aliases_of : List Token → List Alias
aliases_of [] = []
aliases_of (t ∷ ts) = aliases_in t.notes ++ aliases_of ts
