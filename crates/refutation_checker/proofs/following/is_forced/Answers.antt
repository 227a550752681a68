use Rattle.std.proofs.Common.{◌≡◌, ◌+◌, ◌↔◌, length, IsTrue, arith}
use Rattle.std.proofs.lemmas.Result.{IfOk-weaker}
use Rattle.refutation_checker.specs.Follows.{known, Follows}
use Rattle.refutation_checker.proofs.FollowLemmas.{length-known, Follows-decided, Follows-opposed}
use Rattle.refutation_checker.proofs.following.is_forced.Goals as goal

pub returns-then-not-apart : goal.returns-then-not-apart
returns-then-not-apart c = Follows-opposed _ c.args.step.now _ (rw c.if-not-apart.true at c.in_ok-apart.ensures) c.lits.ensures

pub returns : goal.returns
returns c =
    let next : c.args.step.now.id ≡ length (known c.args.formula.now c.args.steps.now) + 1 = omega (arith, length-known c.args.formula.now c.args.steps.now) in
    let made = rw c.if-not-apart.false at c.in_ok-apart.ensures in
    IfOk-weaker c.hints_work.result _ (λ b. IsTrue b ↔ Follows (known c.args.formula.now c.args.steps.now) c.args.step.now)
    (λ b works. Follows-decided _ c.args.step.now _ _ _ b next made.0 made.1 c.lits.ensures c.as_slice.ensures works) c.hints_work.ensures
