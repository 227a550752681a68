use Rattle.std.proofs.Common.{drop}
use Rattle.op_inliner.specs.Inlining.{no_names, with_names}
use Rattle.op_inliner.proofs.FrameLemmas.{Opening}
use Rattle.op_inliner.proofs.frames.define_module.Given as goal

abbrev pub invariant-loop-i : goal.invariant-loop-i
invariant-loop-i l = Opening l.fn.frames.items l.frames.items l.scope (with_names (drop l.i l.defs)) (with_names l.defs no_names)
