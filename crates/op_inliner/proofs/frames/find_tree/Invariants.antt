use Rattle.std.proofs.Common.{length, ◌≡◌, ◌≤◌}
use Rattle.tla_meaning.specs.Scopes.{find_last}
use Rattle.op_inliner.specs.inner.Frames.{names_at}
use Rattle.op_inliner.proofs.frames.find_tree.Given as goal

abbrev pub invariant-loop-scope : goal.invariant-loop-scope
invariant-loop-scope l = record {
  within : l.scope ≤ length l.frames;
  same : find_last l.name (names_at l.frames l.scope).named ≡ find_last l.name (names_at l.frames l.fn.scope).named;
}

abbrev pub decreases-loop-scope : goal.decreases-loop-scope
decreases-loop-scope l = l.scope
