use Rattle.std.proofs.Common.{arith}
use Rattle.refutation_checker.proofs.MarksLemmas.{Updates-near, Updates-far}
use Rattle.refutation_checker.proofs.marks.Marks.set.Goals as goal

pub returns-then-var-len-clause-ok : goal.returns-then-var-len-clause-ok
returns-then-var-len-clause-ok c = rw (← c.self.view_is) (Updates-near _ _ c.args.var _ (omega arith))

pub returns-clause-ok : goal.returns-clause-ok
returns-clause-ok c =
    let u = c.in_ok-insert.ensures.updates in
    rw (← c.self.view_is) (Updates-far _ _ _ c.args.var _ (λ lt. absurd (omega arith)) u.1 u.2)
