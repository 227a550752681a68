use Rattle.std.proofs.Common.{drop, map, length, ◌≤◌, ◌-◌}
use Rattle.op_inliner.specs.Inlining.{let_names, written}
use Rattle.op_inliner.specs.inner.Frames.{names_at}
use Rattle.op_inliner.proofs.FrameLemmas.{Opening}
use Rattle.op_inliner.proofs.frames.define_all.Given as goal

abbrev pub invariant-loop-i : goal.invariant-loop-i
invariant-loop-i l = record {
  first : l.i ≤ length l.lets;
  second : l.i ≤ length l.trees;
  third : l.first ≤ length l.names;
  opening : Opening l.fn.frames.items l.frames.items l.scope
      (let_names (drop l.i l.lets) (drop l.first l.names) (map written (drop l.i l.trees)))
      (let_names l.lets l.names (map written l.trees) (names_at l.fn.frames.items l.fn.scope));
}

abbrev pub decreases-loop-i : goal.decreases-loop-i
decreases-loop-i l = length l.lets - l.i
