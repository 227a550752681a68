use Rattle.std.proofs.Common.{Some, refl}
use Rattle.watched_search.proofs.VisitLemmas.{Advances-push, entries_true}
use Rattle.watched_search.proofs.propagation.drive.Goals as goal

pub returns-in-Unit-clause-advances : goal.returns-in-Unit-clause-advances
returns-in-Unit-clause-advances c =
    rw c.push.ensures (Advances-push _ _ (record { lit = c.in-Unit.u; reason = Some c.args.c }) c.requires.paired (c.args.c, refl, (c.requires.clause, c.in-Unit.ensures)))

pub returns-in-Unit-clause-driving : goal.returns-in-Unit-clause-driving
returns-in-Unit-clause-driving c =
    rw c.push.ensures (λ e. entries_true _ (record { lit = c.in-Unit.u; reason = Some c.args.c }) _ c.in-Unit.ensures.member, λ bad. absurd (bad refl))
