use Rattle.snowcat_types.proofs.Tied.{tuple_is}
use Rattle.snowcat_types.proofs.tying.tuple_from.Goals as goal

pub returns : goal.returns
returns c = tuple_is c.args.first c.args.count c.in_ok-items.items.items c.tuple_of.result c.tuple_of.ensures c.in_ok-items.ensures
