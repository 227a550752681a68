-- Trees that are whole: what the types of a tree do not say of its nodes. Source: Specifying Systems, section 16.1, for the
-- operands of operators.
use Rattle.std.specs.Prelude.{ℕ, Bool, true, ◌&&◌, List, [], nat_eq, nat_lt, length, None}
use Rattle.std.specs.List.{list_all}
use Rattle.tla_meaning.specs.declared.expr.Expr.{Expr}
use Rattle.tla_meaning.specs.declared.expr.Expr.TheOpen.{Expr-F}
use Rattle.tla_meaning.specs.declared.expr.Expr.TheFolds.{fold-Expr}
use Rattle.tla_meaning.specs.declared.op.Op.{Op}
use Rattle.tla_meaning.specs.declared.op.Op.TheVariants as op
use Rattle.snowcat_rows.specs.TypeTexts.{are_distinct}
use Rattle.snowcat_types.specs.TypeForms.{bool_type}
use Rattle.snowcat_types.specs.Rows.{Context, row_of}

abbrev pub nowhere : Context
nowhere = record { declared = λ i. bool_type; noted = λ x. None; bound = [] }

-- how many operands the row of an operator has, where it binds these names and has so many children
abbrev pub operand_count : Op → List (List ℕ) → ℕ → ℕ
operand_count o xs n = length ((row_of nowhere o xs n).says (λ k. bool_type)).operands

-- a filter binds one name, and a fold two
abbrev pub binds_enough : Op → ℕ → Bool
binds_enough op.Filter n = nat_eq n 1
binds_enough op.Fold n = nat_eq n 2
binds_enough o n = true

-- a declared name is one of so many
abbrev pub is_declared : ℕ → Op → Bool
is_declared m (op.Name i primed) = nat_lt i m
is_declared m o = true

-- a record has as many names as children, and they differ
abbrev pub names_enough : Op → ℕ → Bool
names_enough (op.Record fs) n = nat_eq (length fs) n && are_distinct fs
names_enough (op.RecSet fs) n = nat_eq (length fs) n && are_distinct fs
names_enough o n = true

abbrev pub whole_node : ℕ → Expr-F Bool → Bool
whole_node m x =
    ((nat_eq (operand_count x.op x.binds (length x.args)) (length x.args) && binds_enough x.op (length x.binds))
    && (is_declared m x.op && names_enough x.op (length x.args)))
    && list_all (λ b. b) x.args

-- each node has as many children as its operator has operands, and binds as many names; each declared name is one of so
-- many
unfoldable pub is_whole : ℕ → Expr → Bool
is_whole m = fold-Expr Bool (whole_node m)
