use Rattle.std.proofs.Common.{take}
use Rattle.sat_formula.specs.Formula.{Grows}
use Rattle.cell_merge.specs.inner.Parts.{Parted}
use Rattle.cell_merge.proofs.merging.part.Given as goal

abbrev pub invariant-loop-l : goal.invariant-loop-l
invariant-loop-l l = record {
  grows : Grows l.fn.formula l.formula;
  parted : Parted l.arena l.formula l.cell (take l.l-index l.edges) l.edges l.found l.others.items;
}
