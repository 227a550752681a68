use Rattle.std.proofs.Common.{map, arith}
use Rattle.std.proofs.lemmas.List.{length-map}
use Rattle.watched_search.specs.Trail.{lits_of}
use Rattle.watched_search.specs.Codes.{literal}
use Rattle.watched_search.proofs.VisitLemmas.{looked_round}
use Rattle.watched_search.proofs.status.replacement.Goals as goal

pub returns-in-None : goal.returns-in-None
returns-in-None c =
    let same = c.codes-codes.ensures.same in
    let codes = c.codes-codes.result.now in
    let long = length-map codes (λ n. literal n) in
    rw (← same) (looked_round (lits_of c.args.trail.now.entries) (map (λ n. literal n) codes) c.args.other c.mark-mark.result _
    (rw (← same) at c.mark-mark.ensures) (λ k from lt. c.in-None.ensures k from (omega arith)) c.replacement_in-in-None.ensures)
