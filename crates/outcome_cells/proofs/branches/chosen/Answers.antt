use Rattle.std.proofs.Common.{refl}
use Rattle.cell_arena.proofs.Growing.{Grows-formula, Grows-trans}
use Rattle.outcome_cells.proofs.Branching.{branch_taken}
use Rattle.outcome_cells.proofs.branches.chosen.Goals as goal

pub returns-in_err-cell-clause-grows : goal.returns-in_err-cell-clause-grows
returns-in_err-cell-clause-grows c =
    Grows-trans _ _ _ (Grows-formula _ _ c.in_ok-faults.ensures.grows refl) c.in_err-cell.ensures.grows

pub returns-clause-takes : goal.returns-clause-takes
returns-clause-takes c =
    let wrong = rw (c.faults-first.ensures, c.faults-left.ensures, c.faults-right.ensures) at c.in_ok-faults.ensures.wrong in
    let big = rw (c.faults-first.ensures, c.faults-left.ensures, c.faults-right.ensures) at c.in_ok-faults.ensures.big in
    let cell = c.in_ok-cell.ensures in
    branch_taken c.args.b.now _ _ c.args.guard c.args.x c.args.y _ _ refl cell.grows c.bit_of-bit.ensures.value wrong big cell.chosen

pub returns-clause-grows : goal.returns-clause-grows
returns-clause-grows c = Grows-trans _ _ _ (Grows-formula _ _ c.in_ok-faults.ensures.grows refl) c.in_ok-cell.ensures.grows
