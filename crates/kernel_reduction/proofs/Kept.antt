-- The law of what is built.
use Rattle.std.proofs.Common.{Option, Some, None}
use Rattle.tla_meaning.specs.declared.actions.Assignable.{Assignable}
use Rattle.tla_meaning.specs.declared.expr.Expr.{Expr}
use Rattle.tla_meaning.specs.Numbers.{Width}
use Rattle.kernel_trees.specs.declared.kernel.Ker.{Ker}
use Rattle.kernel_reduction.specs.Reduction.{Numbering}
use Rattle.kernel_reduction.specs.Laws.{IsSilent, KeepsOutcomes}
use Rattle.kernel_reduction.proofs.Keeping.{Silent, keeps}

silent : (i : Option Assignable) (e : Expr) → IsSilent i e → Silent i e
silent None e h = tt
silent (Some m) e h = h

pub keeps_outcomes : (w : Width) (i : Option Assignable) (ρ : Numbering) (e : Expr) (k : Ker) → KeepsOutcomes w i ρ e k
keeps_outcomes w i ρ e k h q b = keeps w h i ρ e k b (silent i e q)
