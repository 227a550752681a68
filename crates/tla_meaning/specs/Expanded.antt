-- Trees after expansion: nothing that is defined elsewhere is left in them.
use Rattle.std.specs.Prelude.{Bool, true, false, ◌&&◌}
use Rattle.std.specs.List.{list_all}
use Rattle.tla_meaning.specs.declared.expr.Expr.{Expr}
use Rattle.tla_meaning.specs.declared.expr.Expr.TheFolds.{fold-Expr}
use Rattle.tla_meaning.specs.declared.op.Op.{Op}
use Rattle.tla_meaning.specs.declared.op.Op.TheVariants as op

-- the operators that are left
abbrev pub is_expanded_op : Op → Bool
is_expanded_op (op.Use x) = false
is_expanded_op (op.Param x) = false
is_expanded_op (op.Let ds) = false
is_expanded_op op.Prime = false
is_expanded_op op.Unchanged = false
is_expanded_op op.Boxed = false
is_expanded_op op.Angled = false
is_expanded_op o = true

abbrev pub is_expanded : Expr → Bool
is_expanded = fold-Expr Bool (λ x. is_expanded_op x.op && list_all (λ b. b) x.args)
