use Rattle.std.proofs.Common.{◌≡◌, take}
use Rattle.member_choices.specs.inner.Tests.{choice_edges}
use Rattle.member_choices.proofs.edges.edges_to.Given as goal

abbrev pub invariant-loop-i : goal.invariant-loop-i
invariant-loop-i l = record { edges : l.out.items ≡ choice_edges (take l.i l.cs) (take l.i l.ids) }
