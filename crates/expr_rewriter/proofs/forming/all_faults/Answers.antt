use Rattle.sat_formula.proofs.Extension.{Grows-trans}
use Rattle.expr_rewriter.proofs.FormFaults.{faults_turn}
use Rattle.expr_rewriter.proofs.forming.all_faults.Goals as goal

pub loop-i-preserved : goal.loop-i-preserved
loop-i-preserved c =
    let i = c.loop-i.invariant in
    record {
      grows = Grows-trans c.args.f.now c.loop-i.f c.join.new.f i.grows c.join.ensures.grows;
      joins = faults_turn c.loop-i.f c.join.new.f c.args.sets.now c.args.parts.now c.loop-i.i c.index-parts-i.result
          c.loop-i.all c.in_ok-all-2.all
          c.loop-i-test.true c.index-parts-i.is c.join.ensures.grows i.joins c.in_ok-all-2.ensures.joins;
    }
