use Rattle.std.proofs.Common.{inl, inr, arith}
use Rattle.cell_merge.proofs.composites.common_count.Goals as goal

pub returns-then-left-right : goal.returns-then-left-right
returns-then-left-right c =
    let l = c.part_count-left.ensures in
    let r = c.part_count-right.ensures in
    let lt = c.if-left-right.true in
    record { left = omega arith; right = omega arith; all = inl (omega arith) }

pub returns : goal.returns
returns c =
    let l = c.part_count-left.ensures in
    let r = c.part_count-right.ensures in
    let le = c.if-left-right.false in
    record { left = omega arith; right = omega arith; all = inr (omega arith) }
