use Rattle.std.proofs.Common.{All}
use Rattle.sat_formula.specs.Lit.{IsBelow}
use Rattle.cell_arena.specs.Growth.{Grows}
use Rattle.cell_merge.specs.Edges.{LeadTo, AreNamed}
use Rattle.cell_merge.specs.Sorts.{number}
use Rattle.function_tests.proofs.arrows.set.Given as goal

abbrev pub invariant-loop-i : goal.invariant-loop-i
invariant-loop-i l = record {
  grows : Grows l.fn.b l.b;
  bits : All (IsBelow l.b.formula.vars) l.bits;
  cells : LeadTo l.b.arena.kinds number l.list.items;
  named : AreNamed l.b.formula.vars l.list.items;
}
