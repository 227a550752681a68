use Rattle.std.proofs.Common.{drop}
use Rattle.op_inliner.specs.Inlining.{bind_names}
use Rattle.op_inliner.specs.inner.Frames.{names_at}
use Rattle.op_inliner.proofs.FrameLemmas.{Opening}
use Rattle.op_inliner.proofs.frames.bind.Given as goal

abbrev pub invariant-loop-name : goal.invariant-loop-name
invariant-loop-name l =
    Opening l.fn.frames.items l.frames.items l.scope (bind_names l.level (drop l.name-index l.names)) (bind_names l.level l.names (names_at l.fn.frames.items l.fn.scope))
