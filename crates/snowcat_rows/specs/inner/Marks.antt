-- What is read of a type's text: each construct behind its parts.
use Rattle.std.specs.Prelude.{List, [], ◌∷◌, ◌++◌}
use Rattle.snowcat_rows.specs.declared.marks.Mark.{Mark}
use Rattle.snowcat_rows.specs.declared.marks.Mark.TheVariants as mark
use Rattle.snowcat_rows.specs.TypeTexts.{Syntax, Syntaxes, Fields, bool, int, str, named, variable, alias, set, seq, function, tuple, record_of, constant, operator, parens, end, more, last, also, names_of}

-- the marks of a type, behind those of what stands before it
abbrev mutual
  pub marked : Syntax → List Mark → List Mark
  marked bool o = o ++ mark.Bool ∷ []
  marked int o = o ++ mark.Int ∷ []
  marked str o = o ++ mark.Str ∷ []
  marked (named x) o = o ++ mark.Named x ∷ []
  marked (variable x) o = o ++ mark.Var x ∷ []
  marked (alias x) o = o ++ mark.Alias x ∷ []
  marked (set s) o = marked s o ++ mark.Set ∷ []
  marked (seq s) o = marked s o ++ mark.Seq ∷ []
  marked (function s t) o = marked t (marked s o) ++ mark.Function ∷ []
  marked (tuple s ss) o = more_marked ss (marked s o ++ mark.One ∷ []) ++ mark.Tuple ∷ []
  marked (record_of n s fs k) o = fields_marked fs (marked s o ++ mark.One ∷ []) ++ mark.Record (n ∷ names_of fs) k ∷ []
  marked (constant t) o = marked t (o ++ mark.Nothing ∷ []) ++ mark.Operator ∷ []
  marked (operator s ss t) o = marked t (more_marked ss (marked s o ++ mark.One ∷ [])) ++ mark.Operator ∷ []
  marked (parens s) o = marked s o

  pub more_marked : Syntaxes → List Mark → List Mark
  more_marked end o = o
  more_marked (more s ss) o = more_marked ss (marked s o ++ mark.Join ∷ [])

  pub fields_marked : Fields → List Mark → List Mark
  fields_marked last o = o
  fields_marked (also n s fs) o = fields_marked fs (marked s o ++ mark.Join ∷ [])
