use Rattle.std.proofs.Common.{All}
use Rattle.sat_formula.specs.Lit.{IsBelow}
use Rattle.cell_arena.specs.Growth.{Grows}
use Rattle.cell_merge.specs.Sorts.{OfSort, number}
use Rattle.function_tests.proofs.sequences.numbers.Given as goal

abbrev pub invariant-loop-i : goal.invariant-loop-i
invariant-loop-i l = record {
  grows : Grows l.fn.b l.b;
  bits : All (IsBelow l.b.formula.vars) l.bits;
  cells : All (OfSort l.b.arena.kinds number) l.places.items;
}
