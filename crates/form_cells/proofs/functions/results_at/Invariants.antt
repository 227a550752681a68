use Rattle.std.proofs.Common.{take}
use Rattle.cell_arena.specs.Growth.{Grows}
use Rattle.form_cells.specs.inner.Listed.{GivesResults}
use Rattle.form_cells.proofs.functions.results_at.Given as goal

abbrev pub invariant-loop-i : goal.invariant-loop-i
invariant-loop-i l = record {
  grows : Grows l.fn.b l.b;
  gives : GivesResults l.fn.b l.b l.f (take l.i l.arguments) l.results.items;
}
