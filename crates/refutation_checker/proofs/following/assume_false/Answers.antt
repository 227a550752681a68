use Rattle.std.proofs.Common.{refl}
use Rattle.std.proofs.lemmas.Bool.{false≢true}
use Rattle.std.proofs.lemmas.List.{take_all}
use Rattle.refutation_checker.proofs.AssumeLemmas.{opposite_found, assumed_more, HasNoOpposites-step}
use Rattle.refutation_checker.proofs.following.assume_false.Goals as goal

pub returns-then-is_true : goal.returns-then-is_true
returns-then-is_true c =
    opposite_found _ _ _ c.loop-l-test.true (rw c.loop-l.invariant.made at (c.if-is_true.ensures.0 refl))

pub loop-l-preserved : goal.loop-l-preserved
loop-l-preserved c =
    let e = c.if-is_true.ensures in
    let p = c.in_ok-push.ensures.ok in
    record {
      made = rw (p, c.negated.ensures) (assumed_more _ _ _ _ c.loop-l-test.true c.loop-l.invariant.made);
      apart = HasNoOpposites-step _ _ _ _ c.loop-l-test.true c.loop-l.invariant.made c.loop-l.invariant.apart (λ h. false≢true (e.1 h));
    }

pub returns : goal.returns
returns c =
    let all = take_all c.loop-l.l-index c.args.lits.now c.loop-l-test.false in
    (rw all at c.loop-l.invariant.made, rw all at c.loop-l.invariant.apart)
