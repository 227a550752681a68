use Rattle.std.proofs.Common.{drop}
use Rattle.sat_formula.specs.Formula.{Grows}
use Rattle.cell_merge.specs.inner.Parts.{Joining}
use Rattle.cell_merge.proofs.merging.merge_distinct.Given as goal

abbrev pub invariant-loop-l : goal.invariant-loop-l
invariant-loop-l l = record {
  grows : Grows l.initial.formula l.formula;
  joining : Joining l.arena l.formula l.join l.es l.es l.fs l.out.items (drop l.l-index l.l-items);
}
