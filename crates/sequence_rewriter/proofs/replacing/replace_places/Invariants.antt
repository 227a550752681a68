use Rattle.cell_arena.specs.Growth.{Grows}
use Rattle.sequence_rewriter.specs.inner.Lengths.{ReplacesPlaces}
use Rattle.sequence_rewriter.proofs.replacing.replace_places.Given as goal

abbrev pub invariant-loop-p : goal.invariant-loop-p
invariant-loop-p l = record {
  grows : Grows l.initial.b l.b;
  replaces : ReplacesPlaces l.initial.b l.b l.index l.s l.v l.p l.out.items;
}
