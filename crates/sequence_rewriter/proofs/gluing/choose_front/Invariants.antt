use Rattle.cell_arena.specs.Growth.{Grows}
use Rattle.sequence_rewriter.specs.inner.Glued.{ChoosesFront}
use Rattle.sequence_rewriter.proofs.gluing.choose_front.Given as goal

abbrev pub invariant-loop-p : goal.invariant-loop-p
invariant-loop-p l = record {
  grows : Grows l.initial.b l.b;
  front : ChoosesFront l.initial.b l.b l.bits l.xs l.ys l.p l.out.items;
}
