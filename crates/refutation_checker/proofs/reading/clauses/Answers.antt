use Rattle.std.proofs.Common.{All, arith}
use Rattle.std.proofs.lemmas.Result.{err_from_is_err_and}
use Rattle.std.proofs.lemmas.List.{length_push}
use Rattle.std.proofs.lemmas.List.Elements.{All-push}
use Rattle.sat_formula.specs.Lit.{IsBelow}
use Rattle.refutation_checker.specs.Certificate.{clause_text}
use Rattle.refutation_checker.specs.inner.Sections.{IsLineOf, StopsAtOnce, StopsInClauses}
use Rattle.refutation_checker.proofs.Stops.{AtLine-weaker, clauses_stop, takes_push}
use Rattle.refutation_checker.proofs.reading.clauses.Goals as goal

pub returns-in_err-c : goal.returns-in_err-c
returns-in_err-c c =
    let p = err_from_is_err_and c.from_residual.result c.from_residual.ensures.1 in
    rw (p.1, p.2)
    (AtLine-weaker c.in_err-c.field-0.0 (StopsAtOnce (IsLineOf clause_text (All (IsBelow c.args.vars))) c.loop.lines) (StopsInClauses c.args.vars c.args.count c.args.lines.now)
    (clauses_stop c.args.vars c.args.count c.args.lines.now c.loop.lines c.loop.clauses c.loop.invariant.fit c.loop.invariant.taken (omega arith)) c.in_err-c.ensures)

pub loop-preserved : goal.loop-preserved
loop-preserved c = rw c.in_ok-push.ensures.ok (record {
  fit = All-push (All (IsBelow c.args.vars)) c.loop.clauses c.in_ok-c.c c.loop.invariant.fit c.in_ok-c.ensures.0;
  count = omega (arith, length_push c.loop.clauses c.in_ok-c.c, c.loop.invariant.count);
  taken = takes_push clause_text c.args.lines.now c.loop.lines c.clause.new.lines c.loop.clauses c.in_ok-c.c c.loop.invariant.taken c.in_ok-c.ensures.1;
})
