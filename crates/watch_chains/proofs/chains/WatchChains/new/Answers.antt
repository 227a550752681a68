use Rattle.std.proofs.Common.{◌≡◌, List, [], length, replicate, ap, arith}
use Rattle.watch_chains.specs.declared.link.Link.{Link}
use Rattle.watch_chains.specs.Chains.{Chained}
use Rattle.watch_chains.proofs.Tables.{lists-are, view_of, same_watches, Chained-new}
use Rattle.watch_chains.proofs.chains.WatchChains.new.Goals as goal

pub invariant_of-result : goal.invariant_of-result
invariant_of-result c =
    let made : Chained c.in_ok-firsts.firsts c.new.result (replicate {A = List Link} c.args.codes []) = rw (c.in_ok-firsts.ensures, c.new.ensures) (Chained-new c.args.codes) in
    view_of _ _ _ made

pub returns : goal.returns
returns c =
    let made : Chained c.in_ok-firsts.firsts c.new.result (replicate {A = List Link} c.args.codes []) = rw (c.in_ok-firsts.ensures, c.new.ensures) (Chained-new c.args.codes) in
    let none : length c.new.result ≡ 0 = ap length c.new.ensures in
    same_watches _ _ _ _ (omega arith) (lists-are _ _ _ made)
