use Rattle.std.proofs.Common.{sym, ap}
use Rattle.watched_search.specs.Trail.{TrailView}
use Rattle.watched_search.specs.Searching.{clause_at}
use Rattle.watched_search.proofs.SettleLemmas.{IsLowered-cut, settled_short, settled_long}
use Rattle.watched_search.proofs.propagation.settle_clause.Goals as goal

pub returns-in_default-clause-lowered : goal.returns-in_default-clause-lowered
returns-in_default-clause-lowered c = rw c.cut.ensures.kept (IsLowered-cut _ c.args.head _)

pub returns-in_default-clause-settled : goal.returns-in_default-clause-settled
returns-in_default-clause-settled c =
    settled_short c.args.watched.now c.args.trail.now c.cut.new.self c.args.head c.args.c c.args.is_true c.requires.paired c.requires.clause (sym c.in_default.ensures) c.requires.driving c.cut.ensures.kept

pub returns-clause-settled : goal.returns-clause-settled
returns-clause-settled c =
    let lits = clause_at c.args.watched.now.clauses c.args.c in
    let entries = ap (λ (x : TrailView). x.entries) c.settle-lower.ensures.lowered.same in
    settled_long c.args.watched.now c.settle-lower.new.trail c.settle.new.trail c.settle-lower.result c.settle.result c.args.c c.in-Some.a c.other_watch-b.result
    (sym c.in-Some.ensures) c.other_watch-b.ensures.same c.settle.ensures.lowered (c.settle-lower.ensures.held lits c.requires.driving.0)
    (c.settle.ensures.held lits (λ e. rw entries (c.requires.driving.0 e)))
