use Rattle.std.proofs.Common.{◌≡◌, ◌+◌, ◌<◌, ◌++◌, ◌∷◌, [], length, take, inl, arith}
use Rattle.std.proofs.lemmas.List.{take_more, take_all}
use Rattle.std.proofs.lemmas.List.Elements.{Contains-get_or}
use Rattle.sat_formula.specs.Lit.{top_lit}
use Rattle.refutation_checker.proofs.StatusLemmas.{Found-false, IsUnit-first, IsUnit-more, Contains-take, TellsValue-false_lem, differ_lem, same_lem}
use Rattle.watched_search.specs.Searching.{clause_at}
use Rattle.watched_search.proofs.status.status_of.Goals as goal
use Rattle.watched_search.proofs.status.status_of.Goals.{in-Some-false, in-None+in-None-found, in-None+in-Some+else-ne}

pub returns-then-ne : goal.returns-then-ne
returns-then-ne c =
    let lits = clause_at c.args.watched.now.clauses c.args.c in
    let unit = rw c.in-Some.is at c.loop-k.invariant in
    let size = c.size-k-end.ensures in
    let lt : c.loop-k.k < length lits = omega arith in
    (c.in-Some.u, c.lit-l.result, Contains-take _ _ _ unit.member, rw c.lit-l.ensures.same (Contains-get_or lits c.loop-k.k top_lit lt), differ_lem _ _ c.if-ne.ensures)

pub loop-k-preserved : goal.loop-k-preserved
loop-k-preserved c =
    let lits = clause_at c.args.watched.now.clauses c.args.c in
    let size = c.size-k-end.ensures in
    let lt : c.loop-k.k < length lits = omega arith in
    let more : take (c.loop-k.k + 1) lits ≡ take c.loop-k.k lits ++ c.lit-l.result ∷ [] = rw c.lit-l.ensures.same (take_more lits c.loop-k.k top_lit lt) in
    elim c.match-value.branch [
      | in-Some-false w ↦ rw (w.found-is, more) (Found-false _ _ _ _ c.loop-k.invariant (TellsValue-false_lem _ _ _ w.in-Some-false.ensures w.in-Some-false.field-0-test).1)
      | in-None+in-None-found w ↦ rw (w.found-is, more) (IsUnit-first _ _ _ (rw w.in-None-found.is at c.loop-k.invariant) w.in-None.ensures)
      | in-None+in-Some+else-ne w ↦ rw (w.found-is, more) (IsUnit-more _ _ _ _ (rw w.in-Some.is at c.loop-k.invariant) (inl (same_lem _ _ w.if-ne.ensures)))
    ]

pub returns-in-None-found-2 : goal.returns-in-None-found-2
returns-in-None-found-2 c =
    let h = rw c.in-None-found-2.is at c.loop-k.invariant in
    let size = c.size-k-end.ensures in
    rw (take_all c.loop-k.k (clause_at c.args.watched.now.clauses c.args.c) (let past = c.loop-k-test.false in omega arith)) at h
