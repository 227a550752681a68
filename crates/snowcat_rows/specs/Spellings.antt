-- How a type is written when it is shown: its variables are a to z, a1 to z1 and so on; a tuple or record without parts has
-- no text.
use Rattle.std.specs.Prelude.{ℕ, List, [], ◌∷◌, Option, Some, None, option_map}
use Rattle.snowcat_rows.specs.Letters.{variable_text}
use Rattle.snowcat_rows.specs.declared.showing.Form.{Form}
use Rattle.snowcat_rows.specs.declared.showing.Form.TheVariants.{Operand, Function, Operator}
use Rattle.snowcat_rows.specs.declared.types.Ty.{Ty}
use Rattle.snowcat_rows.specs.declared.types.Ty.TheOpen as layer
use Rattle.snowcat_rows.specs.declared.types.Ty.TheFolds.{fold-Ty}
use Rattle.snowcat_rows.specs.TypeTexts.{Syntax, Syntaxes, Fields, bool, int, str, named, variable, set, seq, function, tuple, record_of, constant, operator, parens, end, more, last, also}
use Rattle.snowcat_rows.specs.Texts.{form_layer}

pub record Spelt : Type 0 where
  pub syntax_of : Option Syntax
  pub form : Form

abbrev pub left_of_arrow : Form → Syntax → Syntax
left_of_arrow Operand s = s
left_of_arrow Function s = parens s
left_of_arrow Operator s = parens s

abbrev pub right_of_arrow : Form → Syntax → Syntax
right_of_arrow Operand s = s
right_of_arrow Function s = s
right_of_arrow Operator s = parens s

abbrev pub both : {A B C : Type 0} → (A → B → C) → Option A → Option B → Option C
both f (Some a) (Some b) = Some (f a b)
both f (Some a) None = None
both f None b = None

abbrev pub others : List Spelt → Option Syntaxes
others [] = Some end
others (s ∷ ss) = both more s.syntax_of (others ss)

abbrev pub other_fields : List (List ℕ × Spelt) → Option Fields
other_fields [] = Some last
other_fields (f ∷ fs) = both (also f.0) f.1.syntax_of (other_fields fs)

abbrev pub row_name : Option ℕ → Option (List ℕ)
row_name None = None
row_name (Some r) = Some (variable_text r)

abbrev pub tuple_syntax : List Spelt → Option Syntax
tuple_syntax [] = None
tuple_syntax (s ∷ ss) = both tuple s.syntax_of (others ss)

abbrev pub record_syntax : List (List ℕ × Spelt) → Option ℕ → Option Syntax
record_syntax [] k = None
record_syntax (f ∷ fs) k = both (λ s ss. record_of f.0 s ss (row_name k)) f.1.syntax_of (other_fields fs)

abbrev pub operator_of : Option Syntax → Option Syntaxes → Option Syntax → Option Syntax
operator_of (Some s) ss t = both (λ xs u. operator s xs u) ss t
operator_of None ss t = None

abbrev pub operator_syntax : List Spelt → Option Syntax → Option Syntax
operator_syntax [] t = option_map constant t
operator_syntax (s ∷ ss) t = operator_of s.syntax_of (others ss) t

abbrev pub syntax_layer : layer.Ty-F Spelt → Option Syntax
syntax_layer layer.Bool = Some bool
syntax_layer layer.Int = Some int
syntax_layer layer.Str = Some str
syntax_layer (layer.Named x) = Some (named x)
syntax_layer (layer.Var n) = Some (variable (variable_text n))
syntax_layer (layer.Set a) = option_map set a.syntax_of
syntax_layer (layer.Seq a) = option_map seq a.syntax_of
syntax_layer (layer.Fun a b) =
    both (λ s t. function (left_of_arrow a.form s) (right_of_arrow b.form t)) a.syntax_of b.syntax_of
syntax_layer (layer.Tup ts) = tuple_syntax ts
syntax_layer (layer.Rec fs k) = record_syntax fs k
syntax_layer (layer.Oper ts b) = operator_syntax ts b.syntax_of

unfoldable pub spelt : Ty → Spelt
spelt = fold-Ty Spelt (λ x. record { syntax_of = syntax_layer x; form = form_layer x })

-- how the type is written, where it has a text
abbrev pub spelling : Ty → Option Syntax
spelling t = (spelt t).syntax_of
