use Rattle.watched_search.proofs.AddLemmas.{watched_of}
use Rattle.watched_search.proofs.searching.Search.count.Goals as goal

pub returns-clause-watched : goal.returns-clause-watched
returns-clause-watched c = rw (← c.self.view_is) (watched_of c.self.inside.watched c.self.inside.trail.entries c.count.ensures.paired)
