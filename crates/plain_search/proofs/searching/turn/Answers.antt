use Rattle.plain_search.proofs.Decided.{turn_at}
use Rattle.plain_search.proofs.searching.turn.Goals as goal

pub returns-in-Some-clause-turned : goal.returns-in-Some-clause-turned
returns-in-Some-clause-turned c =
    turn_at c.args.values.now.items c.deref.result.now _ c.in-Some.at c.deref.ensures.value
    c.in-Some.ensures.within c.in-Some.ensures.is_false c.in-Some.ensures.last c.truncate.ensures.items
