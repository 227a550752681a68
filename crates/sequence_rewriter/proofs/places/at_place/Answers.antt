use Rattle.std.proofs.Common.{refl, arith}
use Rattle.cell_arena.proofs.Growing.{Grows-trans, Grows-formula}
use Rattle.sequence_rewriter.proofs.Numbers.{has-place}
use Rattle.sequence_rewriter.proofs.places.at_place.Goals as goal

pub pick_place-requires-clause-bits : goal.pick_place-requires-clause-bits
pick_place-requires-clause-bits c = c.in_ok-index.ensures.found.index.bits

pub pick_place-requires-clause-valid : goal.pick_place-requires-clause-valid
pick_place-requires-clause-valid c = c.in_ok-index.ensures.found.index.valid

pub pick_place-requires-clause-small : goal.pick_place-requires-clause-small
pick_place-requires-clause-small c = let f = c.in_ok-index.ensures.found.index.first in omega arith

pub pick_place-requires-clause-some : goal.pick_place-requires-clause-some
pick_place-requires-clause-some c = let n = c.part_count.ensures in grind (arith, c.if-part_count-eq0.false)

pub returns-in_err-cell-clause-grows : goal.returns-in_err-cell-clause-grows
returns-in_err-cell-clause-grows c = Grows-trans _ _ _ (Grows-formula _ _ c.in_ok-index.ensures.grows refl) c.in_err-cell.ensures.grows

pub returns-clause-grows : goal.returns-clause-grows
returns-clause-grows c = Grows-trans _ _ _ (Grows-formula _ _ c.in_ok-index.ensures.grows refl) c.in_ok-cell.ensures.grows

pub returns-clause-applies : goal.returns-clause-applies
returns-clause-applies c =
    has-place c.args.b.now _ _ c.args.s c.args.i _ _ _ _ c.in_ok-bits.ensures c.in_ok-index.ensures.grows refl (rw c.as_slice.ensures.value at c.in_ok-index.ensures.found)
    c.in_ok-cell.ensures.grows c.in_ok-cell.ensures.picks
