use Rattle.std.proofs.Common.{All}
use Rattle.sat_formula.specs.Lit.{IsBelow}
use Rattle.cell_arena.specs.Growth.{Grows}
use Rattle.function_tests.proofs.Arrowed.{AreArrows, NamesArrows}
use Rattle.function_tests.proofs.arrows.function.Given as goal

abbrev pub invariant-loop-i : goal.invariant-loop-i
invariant-loop-i l = record {
  grows : Grows l.fn.b l.b;
  bits : All (IsBelow l.b.formula.vars) l.bits;
  cells : AreArrows l.b.arena.kinds l.list.items;
  named : NamesArrows l.b.formula.vars l.list.items;
}
