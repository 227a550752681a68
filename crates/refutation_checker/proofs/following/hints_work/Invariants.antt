use Rattle.std.proofs.Common.{◌↔◌, drop}
use Rattle.refutation_checker.specs.Follows.{known, Propagates}
use Rattle.refutation_checker.proofs.following.hints_work.Given as goal

abbrev pub invariant-loop-i : goal.invariant-loop-i
invariant-loop-i l = Propagates (known l.formula l.steps) l.initial.trail l.hints ↔ Propagates (known l.formula l.steps) l.trail (drop l.i l.hints)
