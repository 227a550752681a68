-- The text of a type. Source: the Apalache manual, "Type System 1.2".
use Rattle.std.specs.Prelude.{ℕ, ◌==◌, List, [], ◌++◌, map, length, Option, Some, None, if◌then◌else◌, codes}
use Rattle.std.specs.List.{join_by}
use Rattle.snowcat_rows.specs.Letters.{variable_text}
use Rattle.snowcat_rows.specs.declared.showing.Form.{Form}
use Rattle.snowcat_rows.specs.declared.showing.Form.TheVariants.{Operand, Function, Operator}
use Rattle.snowcat_rows.specs.declared.types.Ty.{Ty}
use Rattle.snowcat_rows.specs.declared.types.Ty.TheOpen as layer
use Rattle.snowcat_rows.specs.declared.types.Ty.TheFolds.{fold-Ty}

-- a type's text, and what decides where it stands in parentheses
pub record Shown : Type 0 where
  pub text : List ℕ
  pub form : Form

abbrev pub in_parentheses : List ℕ → List ℕ
in_parentheses x = codes "(" ++ x ++ codes ")"

-- to the left of an arrow
abbrev pub operand_text : Form → List ℕ → List ℕ
operand_text Operand x = x
operand_text Function x = in_parentheses x
operand_text Operator x = in_parentheses x

-- to the right of it
abbrev pub result_text : Form → List ℕ → List ℕ
result_text Operand x = x
result_text Function x = x
result_text Operator x = in_parentheses x

abbrev pub items_text : List (List ℕ) → List ℕ
items_text xs = join_by (λ x. x) (codes ", ") xs

abbrev pub field_text : List ℕ × List ℕ → List ℕ
field_text f = f.0 ++ codes ": " ++ f.1

abbrev pub fields_text : List (List ℕ × List ℕ) → List ℕ
fields_text fs = join_by field_text (codes ", ") fs

-- the row variable behind so many fields
abbrev pub tail_text : ℕ → Option ℕ → List ℕ
tail_text n None = []
tail_text n (Some r) = (if n == 0 then [] else codes ", ") ++ variable_text r

abbrev pub text_field : List ℕ × Shown → List ℕ × List ℕ
text_field f = (f.0, f.1.text)

abbrev pub text_layer : layer.Ty-F Shown → List ℕ
text_layer layer.Bool = codes "Bool"
text_layer layer.Int = codes "Int"
text_layer layer.Str = codes "Str"
text_layer (layer.Named x) = x
text_layer (layer.Var n) = variable_text n
text_layer (layer.Set a) = codes "Set(" ++ a.text ++ codes ")"
text_layer (layer.Seq a) = codes "Seq(" ++ a.text ++ codes ")"
text_layer (layer.Fun a b) = operand_text a.form a.text ++ codes " -> " ++ result_text b.form b.text
text_layer (layer.Tup ts) = codes "<<" ++ items_text (map (λ s. s.text) ts) ++ codes ">>"
text_layer (layer.Rec fs k) = codes "{" ++ fields_text (map text_field fs) ++ tail_text (length fs) k ++ codes "}"
text_layer (layer.Oper ts b) = codes "(" ++ items_text (map (λ s. s.text) ts) ++ codes ") => " ++ b.text

abbrev pub form_layer : {X : Type 0} → layer.Ty-F X → Form
form_layer (layer.Fun a b) = Function
form_layer (layer.Oper ts b) = Operator
form_layer x = Operand

unfoldable pub shown : Ty → Shown
shown = fold-Ty Shown (λ x. record { text = text_layer x; form = form_layer x })

abbrev pub type_text : Ty → List ℕ
type_text t = (shown t).text

abbrev pub form_of : Ty → Form
form_of t = (shown t).form

abbrev pub typed_field : List ℕ × Ty → List ℕ × List ℕ
typed_field f = (f.0, type_text f.1)
