-- The layout in which types are shown.
use Rattle.std.specs.Prelude.{ℕ, List, [], ◌++◌, Option, Some, None, codes}
use Rattle.snowcat_rows.specs.TypeTexts.{Syntax, Syntaxes, Fields, bool, int, str, named, variable, alias, set, seq, function, tuple, record_of, constant, operator, parens, end, more, last, also}

abbrev pub row_layout : Option (List ℕ) → List ℕ
row_layout None = []
row_layout (Some r) = codes ", " ++ r

abbrev mutual
  pub layout : Syntax → List ℕ
  layout bool = codes "Bool"
  layout int = codes "Int"
  layout str = codes "Str"
  layout (named x) = x
  layout (variable x) = x
  layout (alias x) = codes "$" ++ x
  layout (set s) = codes "Set(" ++ layout s ++ codes ")"
  layout (seq s) = codes "Seq(" ++ layout s ++ codes ")"
  layout (function s t) = layout s ++ codes " -> " ++ layout t
  layout (tuple s ss) = codes "<<" ++ layout s ++ more_layout ss ++ codes ">>"
  layout (record_of n s fs k) = codes "{" ++ n ++ codes ": " ++ layout s ++ fields_layout fs ++ row_layout k ++ codes "}"
  layout (constant t) = codes "() => " ++ layout t
  layout (operator s ss t) = codes "(" ++ layout s ++ more_layout ss ++ codes ") => " ++ layout t
  layout (parens s) = codes "(" ++ layout s ++ codes ")"

  pub more_layout : Syntaxes → List ℕ
  more_layout end = []
  more_layout (more s ss) = codes ", " ++ layout s ++ more_layout ss

  pub fields_layout : Fields → List ℕ
  fields_layout last = []
  fields_layout (also n s fs) = codes ", " ++ n ++ codes ": " ++ layout s ++ fields_layout fs
