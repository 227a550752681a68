use Rattle.std.proofs.Common.{arith}
use Rattle.watched_search.specs.Trail.{lits_of}
use Rattle.plain_solver.proofs.SatisfyLemmas.{valued, unvalued}
use Rattle.plain_solver.proofs.model.first_free.Goals as goal

pub loop-var-preserved : goal.loop-var-preserved
loop-var-preserved c = valued (lits_of c.args.trail.now.entries) c.loop-var.var c.value.result c.value.ensures c.if-is_none.ensures c.loop-var.invariant

pub returns-then-is_none : goal.returns-then-is_none
returns-then-is_none c =
    let lt = c.loop-var-test.true in
    let room = c.room-var-end.ensures in
    ((omega arith), unvalued (lits_of c.args.trail.now.entries) c.loop-var.var c.value.result c.value.ensures c.if-is_none.ensures)

pub returns : goal.returns
returns c = λ l lt.
    let past = c.loop-var-test.false in
    let room = c.room-var-end.ensures in
    c.loop-var.invariant l (omega arith)
