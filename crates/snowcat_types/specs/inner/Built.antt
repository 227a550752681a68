-- What built rows of the table mean.
use Rattle.std.specs.Prelude.{ℕ, ◌+◌, List, [], ◌∷◌, ◌++◌, get_or, length, map, Option, None, option_map, if◌then◌else◌}
use Rattle.tla_meaning.specs.declared.expr.Expr.{Expr, out-Expr}
use Rattle.tla_meaning.specs.Scopes.{same_text}
use Rattle.snowcat_rows.specs.declared.types.Ty.{Ty}
use Rattle.snowcat_rows.specs.Types.{Term, mean, var}
use Rattle.snowcat_types.specs.declared.around.Around.{Around}
use Rattle.snowcat_types.specs.declared.forms.Operand.{Operand as BuiltOperand}
use Rattle.snowcat_types.specs.declared.forms.Row.{Row as BuiltRow}
use Rattle.snowcat_types.specs.TypeForms.{bool_type}
use Rattle.snowcat_types.specs.Rows.{Scope, Operand, Signature, TypeRow, Context, row_of, plain, index_types, reached_after, typed_names}

-- unknown types from a number on
abbrev pub unknown_from : ℕ → ℕ → Term
unknown_from first k = var (first + k)

abbrev pub means : List Ty → List Term
means ts = map mean ts

abbrev pub scope_of : List (List ℕ × Ty) → Scope
scope_of xs = map (λ x. (x.0, mean x.1)) xs

abbrev pub operand_of : BuiltOperand → Operand
operand_of o = record { type = mean o.of; under = scope_of o.under }

abbrev pub signature_of : BuiltRow → Signature
signature_of r = record { operands = map operand_of r.operands; result = mean r.result }

-- the type at that place; Bool where there is none
abbrev pub type_at : List Term → ℕ → Term
type_at ts i = get_or ts i bool_type

-- the operands of one update of an EXCEPT
abbrev pub update_of : List (List ℕ) → (ℕ → Term) → ℕ → ℕ → List Operand
update_of names a i n =
    map plain (index_types a i n)
    ++ record { type = reached_after a i n; under = typed_names names (reached_after a i n ∷ []) } ∷ []

-- what the first note with this text binds
abbrev pub note_of : List (List ℕ × Option Ty) → List ℕ → Option Term
note_of [] x = None
note_of (n ∷ ns) x = if same_text x n.0 then option_map mean n.1 else note_of ns x

abbrev pub context_of : Around → Context
context_of a = record { declared = var; noted = note_of a.notes; bound = scope_of a.bound.items }

-- the row of a node
abbrev pub row_at : Context → Expr → TypeRow
row_at c e = row_of c (out-Expr e).op (out-Expr e).binds (length (out-Expr e).args)
