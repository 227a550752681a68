-- Which bytes are the text of a type. Source: the Apalache manual, "Type System 1.2".
use Rattle.std.specs.Prelude.{ℕ, ◌+◌, ◌<◌, ◌⊎◌, length, take, ◌≡◌, ◌==◌, ◌&&◌, ◌||◌, Bool, true, false, not, List, [], ◌∷◌, ◌++◌, Option, Some, None, codes, bytes_eq, IsTrue}
use Rattle.std.specs.List.{list_all}
use Rattle.snowcat_rows.specs.LiteralTypes.{is_capital, is_digit, is_small, in_word, is_type_name}

-- ---- how a type is written: parentheses, aliases and the names of variables stand as in the text

mutual
  pub data Syntax : Type 0 where
    bool : Syntax
    int : Syntax
    str : Syntax
    named : List ℕ → Syntax
    variable : List ℕ → Syntax
    alias : List ℕ → Syntax
    set : Syntax → Syntax
    seq : Syntax → Syntax
    function : Syntax → Syntax → Syntax
    -- the first item, and the others
    tuple : Syntax → Syntaxes → Syntax
    -- the first field, the others, and a row variable or none
    record_of : List ℕ → Syntax → Fields → Option (List ℕ) → Syntax
    constant : Syntax → Syntax
    operator : Syntax → Syntaxes → Syntax → Syntax
    parens : Syntax → Syntax

  pub data Syntaxes : Type 0 where
    end : Syntaxes
    more : Syntax → Syntaxes → Syntaxes

  pub data Fields : Type 0 where
    last : Fields
    also : List ℕ → Syntax → Fields → Fields

-- ---- its pieces, between which blanks are free

abbrev pub row_pieces : Option (List ℕ) → List (List ℕ)
row_pieces None = []
row_pieces (Some r) = codes "," ∷ r ∷ []

abbrev mutual
  pub pieces : Syntax → List (List ℕ)
  pieces bool = codes "Bool" ∷ []
  pieces int = codes "Int" ∷ []
  pieces str = codes "Str" ∷ []
  pieces (named x) = x ∷ []
  pieces (variable x) = x ∷ []
  pieces (alias x) = (codes "$" ++ x) ∷ []
  pieces (set s) = codes "Set" ∷ codes "(" ∷ pieces s ++ codes ")" ∷ []
  pieces (seq s) = codes "Seq" ∷ codes "(" ∷ pieces s ++ codes ")" ∷ []
  pieces (function s t) = pieces s ++ codes "->" ∷ pieces t
  pieces (tuple s ss) = codes "<<" ∷ pieces s ++ more_pieces ss ++ codes ">>" ∷ []
  pieces (record_of n s fs k) = codes "{" ∷ n ∷ codes ":" ∷ pieces s ++ field_pieces fs ++ row_pieces k ++ codes "}" ∷ []
  pieces (constant t) = codes "(" ∷ codes ")" ∷ codes "=>" ∷ pieces t
  pieces (operator s ss t) = codes "(" ∷ pieces s ++ more_pieces ss ++ codes ")" ∷ codes "=>" ∷ pieces t
  pieces (parens s) = codes "(" ∷ pieces s ++ codes ")" ∷ []

  pub more_pieces : Syntaxes → List (List ℕ)
  more_pieces end = []
  more_pieces (more s ss) = codes "," ∷ pieces s ++ more_pieces ss

  pub field_pieces : Fields → List (List ℕ)
  field_pieces last = []
  field_pieces (also n s fs) = codes "," ∷ n ∷ codes ":" ∷ pieces s ++ field_pieces fs

-- ---- which words and which operands may stand where

-- a small letter with nothing or a decimal number behind it
abbrev pub is_variable : List ℕ → Bool
is_variable [] = false
is_variable (c ∷ cs) = is_small c && list_all is_digit cs

abbrev pub has_letter : List ℕ → Bool
has_letter [] = false
has_letter (c ∷ cs) = is_capital c || is_small c || has_letter cs

-- the name of a field or of an alias
abbrev pub is_name : List ℕ → Bool
is_name x = list_all in_word x && has_letter x

-- an arrow has no arrow at once to its left
abbrev pub is_operand : Syntax → Bool
is_operand (function s t) = false
is_operand (constant t) = false
is_operand (operator s ss t) = false
is_operand s = true

abbrev pub names_of : Fields → List (List ℕ)
names_of last = []
names_of (also n s fs) = n ∷ names_of fs

abbrev pub is_among : List ℕ → List (List ℕ) → Bool
is_among x [] = false
is_among x (y ∷ ys) = bytes_eq x y || is_among x ys

abbrev pub are_distinct : List (List ℕ) → Bool
are_distinct [] = true
are_distinct (x ∷ xs) = not (is_among x xs) && are_distinct xs

abbrev pub is_row : Option (List ℕ) → Bool
is_row None = true
is_row (Some r) = is_variable r

abbrev mutual
  pub is_formed : Syntax → Bool
  is_formed bool = true
  is_formed int = true
  is_formed str = true
  is_formed (named x) = is_type_name x
  is_formed (variable x) = is_variable x
  is_formed (alias x) = is_name x
  is_formed (set s) = is_formed s
  is_formed (seq s) = is_formed s
  is_formed (function s t) = is_operand s && is_formed s && is_formed t
  is_formed (tuple s ss) = is_formed s && are_formed ss
  is_formed (record_of n s fs k) = is_name n && is_formed s && fields_formed fs && are_distinct (n ∷ names_of fs) && is_row k
  is_formed (constant t) = is_formed t
  is_formed (operator s ss t) = is_formed s && are_formed ss && is_formed t
  is_formed (parens s) = is_formed s

  pub are_formed : Syntaxes → Bool
  are_formed end = true
  are_formed (more s ss) = is_formed s && are_formed ss

  pub fields_formed : Fields → Bool
  fields_formed last = true
  fields_formed (also n s fs) = is_name n && is_formed s && fields_formed fs

-- ---- a row variable stands after the same field names wherever it stands

-- the names after which each row variable stands
abbrev pub Fronts : Type 0
Fronts = List ℕ → List ℕ → Bool

abbrev pub RowAfter : Fronts → List (List ℕ) → Option (List ℕ) → Type 0
RowAfter l ns None = Unit {0}
RowAfter l ns (Some r) = (n : List ℕ) → l r n ≡ is_among n ns

abbrev mutual
  pub KeepsFronts : Fronts → Syntax → Type 0
  KeepsFronts l (set s) = KeepsFronts l s
  KeepsFronts l (seq s) = KeepsFronts l s
  KeepsFronts l (function s t) = KeepsFronts l s × KeepsFronts l t
  KeepsFronts l (tuple s ss) = KeepsFronts l s × AllKeep l ss
  KeepsFronts l (record_of n s fs k) = KeepsFronts l s × FieldsKeep l fs × RowAfter l (n ∷ names_of fs) k
  KeepsFronts l (constant t) = KeepsFronts l t
  KeepsFronts l (operator s ss t) = KeepsFronts l s × AllKeep l ss × KeepsFronts l t
  KeepsFronts l (parens s) = KeepsFronts l s
  KeepsFronts l s = Unit {0}

  pub AllKeep : Fronts → Syntaxes → Type 0
  AllKeep l end = Unit {0}
  AllKeep l (more s ss) = KeepsFronts l s × AllKeep l ss

  pub FieldsKeep : Fronts → Fields → Type 0
  FieldsKeep l last = Unit {0}
  FieldsKeep l (also n s fs) = KeepsFronts l s × FieldsKeep l fs

-- ---- the text

abbrev pub is_blank : ℕ → Bool
is_blank b = b == 32 || b == 9 || b == 10 || b == 12 || b == 13

-- the pieces in their order, with any blanks before, between and behind them
abbrev pub Written : List (List ℕ) → List ℕ → Type 0
Written [] text = IsTrue (list_all is_blank text)
Written (p ∷ ps) text = (blanks rest : List ℕ) × IsTrue (list_all is_blank blanks) × (text ≡ blanks ++ p ++ rest) × Written ps rest

-- the text is written so
pub record IsTypeText (text : List ℕ) (s : Syntax) : Type 0 where
  pub formed : IsTrue (is_formed s)
  pub written : Written (pieces s) text
  pub fronts : (l : Fronts) × KeepsFronts l s

-- the text is a prefix of a type's text
pub record Begins (text : List ℕ) : Type 0 where
  pub rest : List ℕ
  pub syntax_of : Syntax
  pub is_text : IsTypeText (text ++ rest) syntax_of

-- the text before n begins a type's text, and with the next byte it begins none; or the whole text begins one, and is none
abbrev pub IsBadAt : List ℕ → ℕ → Type 0
IsBadAt text n =
    ((n < length text) × Begins (take n text) × (Begins (take (n + 1) text) → ⊥))
    ⊎ ((n ≡ length text) × Begins text × ((s : Syntax) → IsTypeText text s → ⊥))
