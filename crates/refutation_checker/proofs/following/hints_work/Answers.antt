use Rattle.refutation_checker.proofs.HintLemmas.{at_false, at_last, at_other, at_unit}
use Rattle.refutation_checker.proofs.following.hints_work.Goals as goal

pub returns-in-AllFalse : goal.returns-in-AllFalse
returns-in-AllFalse c =
    let k = c.in-Some.ensures in
    at_false _ _ c.loop-i.trail c.args.hints.now c.loop-i.i c.in-Some.clause.now c.loop-i-test.true c.loop-i.invariant k.1.1 k.0 k.1.0 c.in-AllFalse.ensures

pub returns-then-last : goal.returns-then-last
returns-then-last c =
    let k = c.in-Some.ensures in
    let t = c.if-last.true in
    at_last _ _ c.loop-i.trail c.args.hints.now c.loop-i.i c.in-Some.clause.now c.loop-i-test.true c.loop-i.invariant k.1.1 c.in-OneLeft.u c.in-OneLeft.ensures c.if-last.true

pub returns-in-Other : goal.returns-in-Other
returns-in-Other c =
    let k = c.in-Some.ensures in
    let o = c.in-Other.ensures in
    at_other _ _ c.loop-i.trail c.args.hints.now c.loop-i.i c.in-Some.clause.now c.loop-i-test.true c.loop-i.invariant k.1.1 o.0 o.1

pub loop-i-preserved : goal.loop-i-preserved
loop-i-preserved c =
    let k = c.in-Some.ensures in
    let t = c.if-last.false in
    let p = c.in_ok-push-in-OneLeft.ensures.ok in
    rw p (at_unit _ _ c.loop-i.trail c.args.hints.now c.loop-i.i c.in-Some.clause.now c.loop-i-test.true c.loop-i.invariant k.1.1 c.in-OneLeft.u k.0 k.1.0 c.in-OneLeft.ensures c.if-last.false)
