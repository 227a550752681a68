use Rattle.std.proofs.Common.{◌≡◌, ◌++◌, drop}
use Rattle.tla_evaluator.proofs.Words.{kept}
use Rattle.tla_evaluator.proofs.binders.kept.Given as goal

abbrev pub invariant-loop-i : goal.invariant-loop-i
invariant-loop-i l = l.members.items ++ kept (drop l.i l.choices) (drop l.i l.passes) ≡ kept l.choices l.passes
