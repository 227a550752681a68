-- The symbols and their equal spellings. Source: Specifying Systems, chapter 15, module TLAPlusGrammar, and table 8.
use Rattle.std.specs.Prelude.{◌≡◌, ℕ, ◌<◌, ◌≤◌, ◌++◌, length, take, Option, Some, None, List, [], ◌∷◌, map, codes, bytes_eq, if◌then◌else◌, flat_map}

-- The spellings of each symbol. The first is the one that a token has.
unfoldable pub spellings : List (List (List ℕ))
spellings =
    (codes "(" ∷ []) ∷ (codes ")" ∷ []) ∷ (codes "[" ∷ []) ∷ (codes "]" ∷ []) ∷ (codes "{" ∷ []) ∷ (codes "}" ∷ [])
    ∷ (codes "<<" ∷ []) ∷ (codes ">>" ∷ []) ∷ (codes "," ∷ []) ∷ (codes ":" ∷ []) ∷ (codes "." ∷ []) ∷ (codes "!" ∷ [])
    ∷ (codes "'" ∷ []) ∷ (codes "@" ∷ []) ∷ (codes "_" ∷ []) ∷ (codes "==" ∷ []) ∷ (codes "<-" ∷ []) ∷ (codes "->" ∷ [])
    ∷ (codes "|->" ∷ []) ∷ (codes ":=" ∷ []) ∷ (codes ":>" ∷ []) ∷ (codes "@@" ∷ []) ∷ (codes ".." ∷ [])
    ∷ (codes "+" ∷ []) ∷ (codes "-" ∷ []) ∷ (codes "*" ∷ []) ∷ (codes "%" ∷ []) ∷ (codes "^" ∷ []) ∷ (codes "=" ∷ [])
    ∷ (codes "#" ∷ codes "/=" ∷ [])
    ∷ (codes "<" ∷ []) ∷ (codes ">" ∷ [])
    ∷ (codes "<=" ∷ codes "=<" ∷ codes "\\leq" ∷ [])
    ∷ (codes ">=" ∷ codes "\\geq" ∷ [])
    ∷ (codes "=>" ∷ [])
    ∷ (codes "<=>" ∷ codes "\\equiv" ∷ [])
    ∷ (codes "/\\" ∷ codes "\\land" ∷ [])
    ∷ (codes "\\/" ∷ codes "\\lor" ∷ [])
    ∷ (codes "~" ∷ codes "\\lnot" ∷ codes "\\neg" ∷ [])
    ∷ (codes "~>" ∷ []) ∷ (codes "[]" ∷ []) ∷ (codes "<>" ∷ []) ∷ (codes "]_" ∷ []) ∷ (codes ">>_" ∷ [])
    ∷ (codes "\\" ∷ []) ∷ (codes "\\in" ∷ []) ∷ (codes "\\notin" ∷ []) ∷ (codes "\\subseteq" ∷ [])
    ∷ (codes "\\cup" ∷ codes "\\union" ∷ [])
    ∷ (codes "\\cap" ∷ codes "\\intersect" ∷ [])
    ∷ (codes "\\X" ∷ codes "\\times" ∷ [])
    ∷ (codes "\\o" ∷ codes "\\circ" ∷ [])
    ∷ (codes "\\div" ∷ []) ∷ (codes "\\E" ∷ []) ∷ (codes "\\A" ∷ [])
    ∷ []

-- each spelling with the symbol that it stands for
abbrev pub spelled_as : List (List ℕ) → List (List ℕ × List ℕ)
spelled_as [] = []
spelled_as (symbol ∷ others) = map (λ spelling. (spelling, symbol)) (symbol ∷ others)

unfoldable pub symbol_table : List (List ℕ × List ℕ)
symbol_table = flat_map spelled_as spellings

abbrev pub look_up : List ℕ → List (List ℕ × List ℕ) → Option (List ℕ)
look_up s [] = None
look_up s (row ∷ rows) = if bytes_eq s row.0 then Some row.1 else look_up s rows

-- the symbol that these bytes are a spelling of
abbrev pub symbol_of : List ℕ → Option (List ℕ)
symbol_of s = look_up s symbol_table

-- n bytes at the text's beginning spell the symbol, and no longer beginning spells one
pub record IsLongestSymbol (text symbol : List ℕ) (n : ℕ) : Type 0 where
  pub some : 0 < n
  pub within : n ≤ length text
  pub spelled : symbol_of (take n text) ≡ Some symbol
  pub longest : (front rest : List ℕ) → text ≡ front ++ rest → n < length front → symbol_of front ≡ None

-- no beginning of the text that is longer than n bytes spells a symbol
abbrev pub NoSymbolPast : List ℕ → ℕ → Type 0
NoSymbolPast text n = (front rest : List ℕ) → text ≡ front ++ rest → n < length front → symbol_of front ≡ None
