use Rattle.tla_values.proofs.Laws.{value_total, at_most_either, at_most_both}
use Rattle.std.proofs.lemmas.Cmp.{upto}
use Rattle.tla_values.proofs.order.order_is_total.Goals as goal

pub returns : goal.returns
returns c = record { total = at_most_either; antisymmetric = at_most_both; transitive = upto value_total }
