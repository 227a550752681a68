use Rattle.std.proofs.lemmas.Bool.{eqb-true}
use Rattle.watched_search.specs.Trail.{lits_of}
use Rattle.watched_search.proofs.TrailLemmas.{lits-append}
use Rattle.cdcl_solver.proofs.CheckingLemmas.{pushed_kept, at_unit, at_last}
use Rattle.cdcl_solver.proofs.checking.hints_work.Goals as goal

pub returns-in-Falsified-clause-works : goal.returns-in-Falsified-clause-works
returns-in-Falsified-clause-works c = λ last.
    let named = c.in-Some.ensures in
    c.loop-i.invariant.works
    (at_last c.args.search.now.clauses (lits_of c.loop-i.trail.entries) c.args.hints.now c.loop-i.i c.loop-i-test.true named.some named.within (rw named.same at c.in-Falsified.ensures) (eqb-true _ _ last))

pub loop-i-preserved : goal.loop-i-preserved
loop-i-preserved c =
    let named = c.in-Some.ensures in
    record {
      works = λ p. c.loop-i.invariant.works
          (at_unit c.args.search.now.clauses (lits_of c.loop-i.trail.entries) c.args.hints.now c.loop-i.i c.loop-i-test.true named.some named.within c.in-OneLeft.lit (rw named.same at c.in-OneLeft.ensures)
          (rw (c.push.ensures, lits-append c.loop-i.trail.entries _) at p));
      kept = pushed_kept c.args.trail.now c.loop-i.trail c.push.new.self _ c.loop-i.invariant.kept c.push.ensures;
    }
