use Rattle.std.proofs.Common.{◌≡◌, take}
use Rattle.expr_rewriter.specs.Environments.{bound_cell}
use Rattle.expr_rewriter.proofs.leaves.last_bound.Given as goal

abbrev pub invariant-loop-entry : goal.invariant-loop-entry
invariant-loop-entry l = l.last ≡ bound_cell (take l.entry-index l.bound) l.n
