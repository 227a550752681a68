use Rattle.std.proofs.Common.{[], ◌∙◌, ap, map, option_map, Some}
use Rattle.typed_cells.proofs.DefaultCells.{text-later}
use Rattle.path_cell_tests.proofs.ReadyPaths.{state-cells}
use Rattle.path_cell_tests.proofs.paths.write_path.Goals as goal

pub step-requires-clause-text : goal.step-requires-clause-text
step-requires-clause-text c = text-later c.in_ok-b.b c.start.new.b [] c.in_ok-b.ensures c.in_ok-begin.ensures.grows

pub step-requires-clause-state : goal.step-requires-clause-state
step-requires-clause-state c =
    state-cells c.start.new.b.arena.kinds c.args.types.now c.in-Some.begin.next c.as_slice-ids.result.now
    (rw c.in-Some.is at c.in_ok-begin.ensures.sorts)
    (ap (map Some) c.as_slice-ids.ensures.value ∙ (rw c.in-Some-2.is at c.in_ok-state.ensures) ∙ ap
    (map (option_map (λ y. y.0))) c.as_slice.ensures)
    (c.are_there.ensures c.if-not-are_there.false)
