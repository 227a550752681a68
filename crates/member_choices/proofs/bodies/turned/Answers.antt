use Rattle.member_choices.proofs.Joined.{turned-other, turned-same}
use Rattle.member_choices.proofs.bodies.turned.Goals as goal

pub returns-then-wanted : goal.returns-then-wanted
returns-then-wanted c = rw c.if-wanted.true (turned-same _ _ _ c.in_ok-bits.ensures)

pub returns : goal.returns
returns c = rw c.if-wanted.false (turned-other _ _ _ _ c.in_ok-bits.ensures
    (rw c.as_slice.ensures.value at c.in_ok-others.ensures))
