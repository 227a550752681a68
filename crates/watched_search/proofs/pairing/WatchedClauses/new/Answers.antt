use Rattle.std.proofs.Common.{arith}
use Rattle.watched_search.proofs.ListLemmas.{IsPaired-none, blocked_none, room_none}
use Rattle.watched_search.proofs.pairing.WatchedClauses.new.Goals as goal

pub invariant_of-result : goal.invariant_of-result
invariant_of-result c =
    let small = c.if-vars-gt-MOST_VARS.false in
    rw (c.new.ensures, c.new-2.ensures.items, c.in_ok-lists.ensures) (IsPaired-none c.args.vars, blocked_none _, room_none c.args.vars _, omega arith)
