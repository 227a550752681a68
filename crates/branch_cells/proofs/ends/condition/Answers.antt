use Rattle.std.proofs.Common.{lt_of_lt_of_le, refl}
use Rattle.branch_cells.proofs.EndLiterals.{condition_of}
use Rattle.branch_cells.proofs.ends.condition.Goals as goal

pub returns-clause-ends : goal.returns-clause-ends
returns-clause-ends c =
    let grows = c.in_ok-holds.ensures.grows in
    condition_of c.args.b.now _ c.args.x c.bit_of-bit.result c.in_ok-holds.holds refl c.bit_of-bit.ensures.value
    (rw c.faults-faults.ensures at c.in_ok-holds.ensures.value)
    (lt_of_lt_of_le c.requires.wrong grows.vars) (lt_of_lt_of_le c.requires.big grows.vars)
