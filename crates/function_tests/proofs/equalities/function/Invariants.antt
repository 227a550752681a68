use Rattle.std.proofs.Common.{All}
use Rattle.sat_formula.specs.Lit.{IsBelow}
use Rattle.cell_arena.specs.Growth.{Grows}
use Rattle.cell_merge.specs.Sorts.{number, truth}
use Rattle.cell_merge.specs.Arrows.{LeadFrom, ArrowsNamed}
use Rattle.function_tests.proofs.equalities.function.Given as goal

abbrev pub invariant-loop-i : goal.invariant-loop-i
invariant-loop-i l = record {
  grows : Grows l.fn.b l.b;
  bits : All (IsBelow l.b.formula.vars) l.bits;
  cells : LeadFrom l.b.arena.kinds number truth l.list.items;
  named : ArrowsNamed l.b.formula.vars l.list.items;
}
