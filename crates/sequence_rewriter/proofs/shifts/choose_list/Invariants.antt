use Rattle.cell_arena.specs.Growth.{Grows}
use Rattle.sequence_rewriter.specs.inner.Shifts.{ChoosesList}
use Rattle.sequence_rewriter.proofs.shifts.choose_list.Given as goal

abbrev pub invariant-loop-i : goal.invariant-loop-i
invariant-loop-i l = record {
  grows : Grows l.initial.b l.b;
  chosen : ChoosesList l.initial.b l.b l.l l.xs l.ys l.i l.out.items;
}
