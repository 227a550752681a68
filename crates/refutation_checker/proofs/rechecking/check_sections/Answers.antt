use Rattle.std.proofs.Common.{refl, arith, below_more}
use Rattle.std.proofs.lemmas.List.Elements.{at_read}
use Rattle.refutation_checker.specs.Rechecking.{StepsFollow, FailsWith}
use Rattle.refutation_checker.proofs.RecheckLemmas.{counts_open, counts_closed}
use Rattle.refutation_checker.proofs.rechecking.check_sections.Goals as goal
use Rattle.refutation_checker.proofs.rechecking.check_sections.Goals.{then-s, else-s}

pub returns-in-Some : goal.returns-in-Some
returns-in-Some c =
    let fails : FailsWith c.in-Some.id c.index-sections-i.result = rw c.in-Some.is at c.in_ok-id.ensures in
    (c.loop-i.i, (c.loop-i-test.true, (refl, (c.loop-i.invariant.follow, at_read c.args.sections.now (FailsWith c.in-Some.id) c.loop-i.i c.index-sections-i.result c.loop-i-test.true c.index-sections-i.is fails))))

pub loop-i-preserved : goal.loop-i-preserved
loop-i-preserved c =
    let follows : StepsFollow c.index-sections-i.result = rw c.in_default.is at c.in_ok-id.ensures in
    let here = at_read c.args.sections.now StepsFollow c.loop-i.i c.index-sections-i.result c.loop-i-test.true c.index-sections-i.is follows in
    elim c.if-s.branch [
      | then-s w ↦
          (let counts = counts_open c.args.sections.now c.loop-i.i c.index-sections-i.result c.loop-i-test.true c.index-sections-i.is w.if-s.true in record {
            follow = below_more _ _ c.loop-i.invariant.follow here;
            refuted = omega (arith, w.refuted-is, c.loop-i.invariant.refuted, counts.0);
            left_open = omega (arith, w.left_open-is, c.loop-i.invariant.left_open, counts.1);
            few = omega (arith, w.refuted-is, w.left_open-is, c.loop-i.invariant.few);
          })
      | else-s w ↦
          (let counts = counts_closed c.args.sections.now c.loop-i.i c.index-sections-i.result c.loop-i-test.true c.index-sections-i.is w.if-s.false in record {
            follow = below_more _ _ c.loop-i.invariant.follow here;
            refuted = omega (arith, w.refuted-is, c.loop-i.invariant.refuted, counts.0);
            left_open = omega (arith, w.left_open-is, c.loop-i.invariant.left_open, counts.1);
            few = omega (arith, w.refuted-is, w.left_open-is, c.loop-i.invariant.few);
          })
    ]
