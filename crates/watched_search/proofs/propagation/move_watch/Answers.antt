use Rattle.watched_search.proofs.MoveLemmas.{at_slot}
use Rattle.watched_search.proofs.VisitLemmas.{Advances-move}
use Rattle.watched_search.proofs.propagation.move_watch.Goals as goal

pub returns-in-Some-clause-advances : goal.returns-in-Some-clause-advances
returns-in-Some-clause-advances c =
    Advances-move c.args.watched.now _ _ c.args.at.lit c.lit-v.result c.args.at.place c.args.at.link c.requires.paired c.move_to.ensures.paired
    (at_slot _ c.args.at.lit c.args.at.place c.args.at.link c.requires.paired c.requires.at.at).0 (rw c.set_mark.ensures at c.move_to.ensures.moved)
    (rw (← c.lit-v.ensures.same) at c.in-Some.ensures.2)
