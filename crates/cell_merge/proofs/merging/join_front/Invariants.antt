use Rattle.std.proofs.Common.{take}
use Rattle.sat_formula.specs.Formula.{Grows}
use Rattle.cell_merge.specs.inner.Parts.{Joining}
use Rattle.cell_merge.proofs.merging.join_front.Given as goal

abbrev pub invariant-loop-l : goal.invariant-loop-l
invariant-loop-l l = record {
  grows : Grows l.fn.formula l.formula;
  joining : Joining l.arena l.formula l.join (take l.l-index l.es) l.es l.fs l.out.items l.rest.items;
}
