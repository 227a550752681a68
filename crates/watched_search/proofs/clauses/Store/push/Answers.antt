use Rattle.std.proofs.Common.{◌≡◌, ◌+◌, length, arith}
use Rattle.watched_search.proofs.SpanLemmas.{clauses-push}
use Rattle.watched_search.proofs.clauses.Store.push.Goals as goal

pub returns-clause-ok : goal.returns-clause-ok
returns-clause-ok c =
    let from : c.in_ok-start.start ≡ length c.self.inside.codes.items = omega arith in
    let to : c.in-Some.end ≡ length c.self.inside.codes.items + length c.args.clause.now = omega arith in
    rw (c.push_codes.ensures, c.push_reserved.ensures.items, c.reserve-2.ensures.items, c.reserve.ensures.items, ← c.self.view_is)
    (clauses-push _ _ _ (record { start = c.in_ok-start.start; end = c.in-Some.end; mark = 0 }) c.self.invariant from to)
