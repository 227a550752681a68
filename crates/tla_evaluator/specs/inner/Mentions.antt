-- The names that count as assigned in an action, and the expanded trees that hold one.
use Rattle.std.specs.Prelude.{Bool, ◌&&◌, List}
use Rattle.std.specs.List.{list_any}
use Rattle.tla_meaning.specs.declared.actions.Assignable.{Assignable}
use Rattle.tla_meaning.specs.declared.expr.Expr.{Expr}
use Rattle.tla_meaning.specs.declared.expr.Expr.TheFolds.{fold-Expr}
use Rattle.tla_meaning.specs.declared.op.Op.{Op}
use Rattle.tla_meaning.specs.declared.op.Op.TheVariants as op
use Rattle.tla_meaning.specs.Actions.{counts}
use Rattle.tla_evaluator.specs.Trees.{is_expanded_op}

-- whether a node is such a name, or one of its children holds one
abbrev pub mentioned_at : Assignable → Op → List Bool → Bool
mentioned_at m (op.Name i primed) ks = counts m i primed
mentioned_at m o ks = is_expanded_op o && list_any (λ k. k) ks

-- whether a tree holds such a name
abbrev pub mentions : Assignable → Expr → Bool
mentions m = fold-Expr Bool (λ x. mentioned_at m x.op x.args)
