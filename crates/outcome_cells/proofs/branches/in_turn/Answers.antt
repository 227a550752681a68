use Rattle.std.proofs.Common.{refl}
use Rattle.cell_arena.proofs.Growing.{Grows-formula, Grows-trans}
use Rattle.outcome_cells.proofs.Turning.{turn_taken}
use Rattle.outcome_cells.proofs.branches.in_turn.Goals as goal

pub returns-in_err-cell-clause-grows : goal.returns-in_err-cell-clause-grows
returns-in_err-cell-clause-grows c =
    Grows-trans _ _ _ (Grows-formula _ _ c.in_ok-faults.ensures.grows refl) c.in_err-cell.ensures.grows

pub returns-clause-takes : goal.returns-clause-takes
returns-clause-takes c =
    let cell = c.in_ok-cell.ensures in
    turn_taken c.args.b.now _ _ c.args.wanted c.args.xs.now _ _ _ cell.grows c.in_ok-faults.ensures.turns cell.cell cell.value
