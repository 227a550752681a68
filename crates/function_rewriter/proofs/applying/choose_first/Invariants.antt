use Rattle.std.proofs.Common.{◌-◌}
use Rattle.cell_arena.specs.Growth.{Grows}
use Rattle.function_rewriter.specs.inner.Arrows.{ChoosesFirst}
use Rattle.function_rewriter.proofs.applying.choose_first.Given as goal

abbrev pub invariant-loop-i : goal.invariant-loop-i
invariant-loop-i l = record {
  grows : Grows l.fn.b l.b;
  first : ChoosesFirst l.fn.b l.b l.f l.hits (l.count - l.i) l.cell;
}
