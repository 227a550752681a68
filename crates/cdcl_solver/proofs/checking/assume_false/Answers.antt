use Rattle.std.proofs.Common.{ap}
use Rattle.watched_search.specs.Trail.{TrailView}
use Rattle.watched_search.proofs.TrailLemmas.{no_entry}
use Rattle.cdcl_solver.proofs.CheckingLemmas.{assumed_next, no_value, pushed_kept}
use Rattle.cdcl_solver.proofs.checking.assume_false.Goals as goal

pub loop-l-preserved : goal.loop-l-preserved
loop-l-preserved c =
    let pushed = c.push.ensures in
    let free = no_value _ _ c.value.result c.value.ensures c.if-is_some.ensures in
    record {
      assumed = assumed_next c.args.lits.now c.loop-l.l-index no_entry.lit c.loop-l.trail.entries c.push.new.self.entries _ c.loop-l-test.true (ap (λ (t : TrailView). t.entries) pushed) c.negated.ensures free.0
          c.loop-l.invariant.assumed;
      kept = pushed_kept c.args.trail.now c.loop-l.trail c.push.new.self _ c.loop-l.invariant.kept pushed;
    }
