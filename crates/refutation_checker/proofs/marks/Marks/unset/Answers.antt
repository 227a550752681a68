use Rattle.std.proofs.Common.{arith}
use Rattle.refutation_checker.proofs.MarksLemmas.{Updates-near, Updates-far}
use Rattle.refutation_checker.proofs.marks.Marks.unset.Goals as goal

pub returns-then-var-len : goal.returns-then-var-len
returns-then-var-len c = rw (← c.self.view_is) (Updates-near _ _ c.args.var _ (omega arith))

pub returns-else-var-len : goal.returns-else-var-len
returns-else-var-len c =
    let u = c.remove.ensures.updates in
    rw (← c.self.view_is) (Updates-far _ _ _ c.args.var _ (λ lt. absurd (omega arith)) u.1 u.2)
