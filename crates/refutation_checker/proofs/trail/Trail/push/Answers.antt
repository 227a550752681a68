use Rattle.refutation_checker.proofs.TrailLemmas.{Marks-push}
use Rattle.refutation_checker.proofs.trail.Trail.push.Goals as goal

pub invariant_of-self-2 : goal.invariant_of-self-2
invariant_of-self-2 c =
    rw (c.push_reserved.ensures.items, c.reserve.ensures.items)
    (Marks-push _ _ _ c.args.l c.self.invariant c.in_ok-set.ensures.ok (rw (← c.self.view_is) at c.requires))
