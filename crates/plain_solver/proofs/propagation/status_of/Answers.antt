use Rattle.std.proofs.Common.{inl}
use Rattle.std.proofs.lemmas.List.{take_more, take_all}
use Rattle.std.proofs.lemmas.List.Elements.{Contains-get_or}
use Rattle.refutation_checker.proofs.StatusLemmas.{Found-false, IsUnit-first, IsUnit-more, Other-two, Contains-take, TellsValue-false_lem, differ_lem, same_lem}
use Rattle.plain_solver.proofs.propagation.status_of.Goals as goal
use Rattle.plain_solver.proofs.propagation.status_of.Goals.{in-Some-false, in-None+in-None-found, in-None+in-Some+else-ne}

pub returns-then-ne : goal.returns-then-ne
returns-then-ne c =
    let unit = rw c.in-Some.is at c.loop-l.invariant in
    let t = c.in-None.ensures in
    let e = c.if-ne.ensures in
    Other-two _ _ c.in-Some.u _ (Contains-take _ _ _ unit.member) (Contains-get_or c.args.clause.now c.loop-l.l-index _ c.loop-l-test.true) unit.not_false t.1 (differ_lem _ _ e)

pub loop-l-preserved : goal.loop-l-preserved
loop-l-preserved c =
    let more = take_more c.args.clause.now c.loop-l.l-index _ c.loop-l-test.true in
    elim c.match-value.branch [
      | in-Some-false w ↦ rw (w.found-is, more) (Found-false _ _ _ _ c.loop-l.invariant (TellsValue-false_lem _ _ _ w.in-Some-false.ensures w.in-Some-false.field-0-test).1)
      | in-None+in-None-found w ↦ rw (w.found-is, more) (IsUnit-first _ _ _ (rw w.in-None-found.is at c.loop-l.invariant) w.in-None.ensures)
      | in-None+in-Some+else-ne w ↦ rw (w.found-is, more) (IsUnit-more _ _ _ _ (rw w.in-Some.is at c.loop-l.invariant) (inl (same_lem _ _ w.if-ne.ensures)))
    ]

pub returns-in-None-found-2 : goal.returns-in-None-found-2
returns-in-None-found-2 c = let h = rw c.in-None-found-2.is at c.loop-l.invariant in rw (take_all c.loop-l.l-index c.args.clause.now c.loop-l-test.false) at h
