use Rattle.cell_arena.specs.Growth.{Grows}
use Rattle.sequence_rewriter.specs.inner.Lengths.{PicksPlace}
use Rattle.sequence_rewriter.proofs.places.pick_place.Given as goal

abbrev pub invariant-loop-p : goal.invariant-loop-p
invariant-loop-p l = record {
  grows : Grows l.initial.b l.b;
  picks : PicksPlace l.initial.b l.b l.index l.s l.p l.picked;
}
