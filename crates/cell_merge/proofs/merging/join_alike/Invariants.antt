use Rattle.std.proofs.Common.{take}
use Rattle.sat_formula.specs.Formula.{Grows}
use Rattle.cell_merge.specs.Edges.{JoinsAll}
use Rattle.cell_merge.proofs.merging.join_alike.Given as goal

abbrev pub invariant-loop-l : goal.invariant-loop-l
invariant-loop-l l = record {
  grows : Grows l.fn.formula l.formula;
  joins : JoinsAll l.arena l.formula l.edges (take l.l-index l.edges) l.out.items;
}
