use Rattle.std.proofs.Common.{◌≡◌, take}
use Rattle.member_choices.specs.inner.Tests.{choice_arrows}
use Rattle.member_choices.proofs.edges.arrows_to.Given as goal

abbrev pub invariant-loop-i : goal.invariant-loop-i
invariant-loop-i l = record {
  arrows : l.out.items ≡ choice_arrows (take l.i l.cs) (take l.i l.arguments)
      (take l.i l.results);
}
