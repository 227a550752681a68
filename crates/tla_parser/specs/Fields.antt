-- The field names of one record or record set differ. Source: Specifying Systems, section 16.1.10.
use Rattle.std.specs.Prelude.{bytes_eq}
use Rattle.std.specs.List.{list_any}
use Rattle.std.specs.Prelude.{ℕ, Bool, true, false, cond, not, List, Option, Some, None, ◌∷◌, ◌++◌, ◌&&◌, ◌==◌, []}
use Rattle.tla_parser.specs.Forms.{is_bare}
use Rattle.tla_parser.specs.Trees.{name_of}
use Rattle.tla_parser.specs.Written.{Parts, Written, bin, class_of, closed, exp, from, parts, pre, start, tailed, tok, top}
use Rattle.tla_parser.specs.declared.moves.Construct.{Construct}
use Rattle.tla_parser.specs.declared.moves.Construct.TheVariants.{RecordSet, RecordValue}

abbrev pub distinct : List (List ℕ) → Bool
distinct [] = true
distinct (x ∷ xs) = not (list_any (bytes_eq x) xs) && distinct xs

abbrev pub as_list : Option (List ℕ) → List (List ℕ)
as_list None = []
as_list (Some x) = x ∷ []

-- the name that the parts end in
abbrev pub last_name : Parts → Option (List ℕ)
last_name start = None
last_name top = None
last_name (from w) = None
last_name (tok ps t) = name_of t.kind
last_name (exp ps w) = None

-- the name that an expression is
abbrev pub bare_name : Written → Option (List ℕ)
bare_name (closed c ps) = cond (is_bare (class_of c)) (last_name ps) None
bare_name (tailed c ps w) = None
bare_name (pre p w) = None
bare_name (bin a t b) = None

-- the fields of a record: the first is an expression, behind the bracket, and each later one a token
abbrev pub fields : Parts → List (List ℕ)
fields start = []
fields top = []
fields (from w) = []
fields (tok ps t) = fields ps ++ as_list (name_of t.kind)
fields (exp ps w) = fields ps ++ cond (parts ps == 1) (as_list (bare_name w)) []

unfoldable pub has_fields : Construct → Bool
has_fields RecordValue = true
has_fields RecordSet = true
has_fields _ = false

-- a form names no field twice
abbrev pub names_once : Construct → Parts → Bool
names_once c ps = cond (has_fields c) (distinct (fields ps)) true

-- nor does any form in it
abbrev mutual
  pub once : Written → Bool
  once (closed c ps) = once_in ps && names_once c ps
  once (tailed c ps w) = once_in ps && (once w && names_once c (exp ps w))
  once (pre p w) = once w
  once (bin a t b) = once a && once b

  pub once_in : Parts → Bool
  once_in start = true
  once_in top = true
  once_in (from w) = once w
  once_in (tok ps t) = once_in ps
  once_in (exp ps w) = once_in ps && once w
