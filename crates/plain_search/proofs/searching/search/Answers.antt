use Rattle.std.proofs.Common.{◌<◌, ◌∷◌, ◌∙◌, [], ap, sym, subst, List, Bool, false, length, length-append, arith}
use Rattle.plain_search.specs.inner.Search.{has_false, WasCalm}
use Rattle.plain_search.proofs.Decided.{decided_as}
use Rattle.plain_search.proofs.Indexed.{calm-push, calm-turn}
use Rattle.plain_search.proofs.Passed.{Passed, passed-push, passed-turn, none_left, false_as}
use Rattle.plain_search.proofs.Work.{work, work-turn, length-turn, work-push}
use Rattle.plain_search.proofs.searching.search.Goals as goal

pub values-smaller-else-not-turn : goal.values-smaller-else-not-turn
values-smaller-else-not-turn c =
    work-turn c.args.cnf.now.vars c.values.values.items c.turn.new.values.items c.if-not-turn.ensures.turned c.values.invariant.fits

pub values-preserved-else-not-turn : goal.values-preserved-else-not-turn
values-preserved-else-not-turn c = record {
  fits = let fits = c.values.invariant.fits in omega (arith, length-turn c.values.values.items c.turn.new.values.items c.if-not-turn.ensures.turned);
  passed =
      passed-turn c.args.cnf.now.vars c.args.cnf.now.clauses c.values.values.items c.turn.new.values.items c.if-not-turn.ensures.turned c.values.invariant.fits
      (false_as c.values.values.items c.deref-in-values.result.now c.args.cnf.now.clauses c.deref-in-values.ensures.value c.if-conflicts.ensures) c.values.invariant.passed;
  calm = calm-turn c.values.values.items c.turn.new.values.items c.args.cnf.now.clauses c.if-not-turn.ensures.turned c.values.invariant.calm;
}

pub returns-then-not-turn-clause-none : goal.returns-then-not-turn-clause-none
returns-then-not-turn-clause-none c = λ a size all.
    none_left c.args.cnf.now.vars c.args.cnf.now.clauses c.values.values.items a c.if-not-turn.ensures.ended c.values.invariant.fits
    (false_as c.values.values.items c.deref-in-values.result.now c.args.cnf.now.clauses c.deref-in-values.ensures.value c.if-conflicts.ensures) c.values.invariant.passed size all

pub returns-then-len-cnf-clause-satisfies : goal.returns-then-len-cnf-clause-satisfies
returns-then-len-cnf-clause-satisfies c =
    decided_as c.from_vec.result c.values.values.items c.deref-in-values.result.now c.args.cnf.now.clauses c.args.cnf.now.vars c.requires
    c.from_vec.ensures c.deref-in-values.ensures.value (omega (arith, ap length c.deref-in-values.ensures.value)) (sym c.if-conflicts.ensures)

pub values-smaller : goal.values-smaller
values-smaller c =
    subst (λ (x : List Bool). work c.args.cnf.now.vars x < work c.args.cnf.now.vars c.values.values.items) (sym c.in_ok-push.ensures.items)
    (work-push c.args.cnf.now.vars c.values.values.items (let fits = c.values.invariant.fits in omega arith))

pub values-preserved : goal.values-preserved
values-preserved c = record {
  fits = let fits = c.values.invariant.fits in omega (arith, ap length c.in_ok-push.ensures.items, length-append c.values.values.items (false ∷ []));
  passed =
      subst (λ (x : List Bool). Passed c.args.cnf.now.vars c.args.cnf.now.clauses x) (sym c.in_ok-push.ensures.items)
      (passed-push c.args.cnf.now.vars c.args.cnf.now.clauses c.values.values.items c.values.invariant.passed);
  calm =
      subst (λ (x : List Bool). WasCalm x c.args.cnf.now.clauses) (sym c.in_ok-push.ensures.items)
      (calm-push c.values.values.items c.args.cnf.now.clauses false
      (sym (c.if-conflicts.ensures ∙ ap (λ (x : List Bool). has_false x c.args.cnf.now.clauses) c.deref-in-values.ensures.value)));
}
