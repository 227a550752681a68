use Rattle.cell_arena.specs.Growth.{Grows}
use Rattle.member_choices.specs.inner.Tests.{AreWholes, whole_sort, whole_value}
use Rattle.member_choices.proofs.wholes.wholes.Given as goal

abbrev pub invariant-loop-i : goal.invariant-loop-i
invariant-loop-i l = record {
  grows : Grows l.fn.b l.b;
  wholes : AreWholes l.fn.b l.b (whole_value l.alone) (whole_sort l.alone) l.cs l.i l.out.items;
}
