use Rattle.std.proofs.Common.{All}
use Rattle.sat_formula.specs.Lit.{IsBelow}
use Rattle.cell_arena.specs.Growth.{Grows}
use Rattle.cell_merge.specs.Sorts.{OfSort}
use Rattle.cell_tests.specs.Kinds.{sort_of}
use Rattle.cell_tests.proofs.sets.elements.Given as goal

abbrev pub invariant-loop-code : goal.invariant-loop-code
invariant-loop-code l = record {
  grows : Grows l.fn.b l.b;
  bits : All (IsBelow l.b.formula.vars) l.bits;
  sorts : All (OfSort l.b.arena.kinds (sort_of l.kind)) l.list.items;
}
