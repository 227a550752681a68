use Rattle.std.proofs.Common.{take}
use Rattle.sat_formula.specs.Formula.{Grows}
use Rattle.member_choices.specs.inner.Tests.{KeepsChoices}
use Rattle.member_choices.proofs.sets.keep_choices.Given as goal

abbrev pub invariant-loop-i : goal.invariant-loop-i
invariant-loop-i l = record {
  grows : Grows l.fn.f l.f;
  keeps : KeepsChoices l.f l.cs (take l.i l.cs) l.lits l.out.items;
}
