use Rattle.std.proofs.Common.{drop, map, length, ◌≤◌, ◌-◌}
use Rattle.op_inliner.specs.Inlining.{pass_names, trees, written}
use Rattle.op_inliner.specs.inner.Frames.{names_at}
use Rattle.op_inliner.proofs.FrameLemmas.{Opening}
use Rattle.op_inliner.proofs.frames.pass.Given as goal

abbrev pub invariant-loop-i : goal.invariant-loop-i
invariant-loop-i l = record {
  first : l.i ≤ length l.params;
  second : l.i ≤ length l.arguments;
  opening : Opening l.fn.frames.items l.frames.items l.scope
      (pass_names (drop l.i l.params) (trees (map written (drop l.i l.arguments)) (names_at l.fn.frames.items l.here)))
      (pass_names l.params (trees (map written l.arguments) (names_at l.fn.frames.items l.here)) (names_at l.fn.frames.items l.fn.scope));
}

abbrev pub decreases-loop-i : goal.decreases-loop-i
decreases-loop-i l = length l.params - l.i
