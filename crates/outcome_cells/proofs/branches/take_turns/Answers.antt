use Rattle.outcome_cells.proofs.Truths.{bits-count}
use Rattle.outcome_cells.proofs.Turning.{turned}
use Rattle.outcome_cells.proofs.branches.take_turns.Goals as goal

pub turn_faults-requires-clause-count : goal.turn_faults-requires-clause-count
turn_faults-requires-clause-count c =
    rw c.as_slice-bits.ensures.value (bits-count c.args.arena.now c.args.xs.now _ c.in_ok-lits.ensures)

pub returns-clause-turns : goal.returns-clause-turns
returns-clause-turns c =
    turned c.args.arena.now _ _ c.args.wanted c.args.xs.now _ _ _ c.in_ok-bit.ensures.grows c.in_ok-lits.ensures
    (rw c.as_slice-bits.ensures.value at c.in_ok-faults.ensures.shows)
    (rw c.as_slice-bits.ensures.value at c.in_ok-bit.ensures.value)
