use Rattle.member_choices.proofs.Joined.{finds-body}
use Rattle.member_choices.proofs.bodies.find_body.Goals as goal

pub returns-clause-finds : goal.returns-clause-finds
returns-clause-finds c =
    finds-body _ _ _ c.args.cs.now c.args.bodies.now c.args.wanted _ _ _ c.requires.bodies.count
    c.in_ok-any.ensures.grows c.in_ok-faults.ensures.joins
    c.in_ok-lits.ensures (rw c.as_slice.ensures.value at c.in_ok-any.ensures.any)
