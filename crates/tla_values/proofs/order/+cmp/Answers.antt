use Rattle.std.proofs.Common.{rules, arith}
use Rattle.tla_values.proofs.Ends.{items_longer, items_shorter, pairs_longer, pairs_shorter}
use Rattle.tla_values.proofs.OrderLemmas.{value_orders, bool_below, int_below, text_above, set_above, fun_above}
use Rattle.tla_values.proofs.order.+cmp.Goals as goal

pub compare-returns-in-Bool-b : goal.compare-returns-in-Bool-b
compare-returns-in-Bool-b t c = search (rules, value_orders)

pub compare-returns-in_default : goal.compare-returns-in_default
compare-returns-in_default t c = bool_below _ _ _ c.in-Bool.is c.in_default.not-Bool

pub compare-returns-in-Bool-b-2 : goal.compare-returns-in-Bool-b-2
compare-returns-in-Bool-b-2 t c = search (rules, value_orders)

pub compare-returns-in-Int-b : goal.compare-returns-in-Int-b
compare-returns-in-Int-b t c = search (rules, value_orders)

pub compare-returns-in_default-b : goal.compare-returns-in_default-b
compare-returns-in_default-b t c = int_below _ _ _ c.in-Int.is c.in_default-b.not-Bool c.in_default-b.not-Int

pub compare-returns-in-Text-b : goal.compare-returns-in-Text-b
compare-returns-in-Text-b t c = search (rules, value_orders)

pub compare-returns-in_default-b-2 : goal.compare-returns-in_default-b-2
compare-returns-in_default-b-2 t c = text_above _ _ _ c.in-Text.is c.in_default-b-2.not-Text c.in_default-b-2.not-Set c.in_default-b-2.not-Fun

pub compare-returns-in-Set-b : goal.compare-returns-in-Set-b
compare-returns-in-Set-b t c = search (rules, value_orders)

pub compare-returns-in-Set-b-2 : goal.compare-returns-in-Set-b-2
compare-returns-in-Set-b-2 t c = search (rules, value_orders)

pub compare-returns-in-Fun-b : goal.compare-returns-in-Fun-b
compare-returns-in-Fun-b t c = search (rules, value_orders)

pub compare-returns-in_default-b-3 : goal.compare-returns-in_default-b-3
compare-returns-in_default-b-3 t c = set_above _ _ _ c.in-Set.is c.in_default-b-3.not-Set c.in_default-b-3.not-Fun

pub compare-returns-in-Fun-b-2 : goal.compare-returns-in-Fun-b-2
compare-returns-in-Fun-b-2 t c = search (rules, value_orders)

pub compare-returns-in_default-b-4 : goal.compare-returns-in_default-b-4
compare-returns-in_default-b-4 t c = fun_above _ _ _ c.in-Fun.is c.in_default-b-4.not-Fun

pub cmp_items-returns-then-i-b : goal.cmp_items-returns-then-i-b
cmp_items-returns-then-i-b t c = items_longer c.args.a.now c.args.b.now c.loop-i.i _ c.loop-i.invariant (omega arith) (omega arith)

pub cmp_items-returns-then-a-b : goal.cmp_items-returns-then-a-b
cmp_items-returns-then-a-b t c = items_shorter c.args.a.now c.args.b.now c.loop-i.i _ c.loop-i.invariant (omega arith) (omega arith)

pub cmp_pairs-returns-then-i-b : goal.cmp_pairs-returns-then-i-b
cmp_pairs-returns-then-i-b t c = pairs_longer c.args.a.now c.args.b.now c.loop-i.i _ c.loop-i.invariant (omega arith) (omega arith)

pub cmp_pairs-returns-then-a-b : goal.cmp_pairs-returns-then-a-b
cmp_pairs-returns-then-a-b t c = pairs_shorter c.args.a.now c.args.b.now c.loop-i.i _ c.loop-i.invariant (omega arith) (omega arith)

pub compare-returns-in-Fun-b-3 : goal.compare-returns-in-Fun-b-3
compare-returns-in-Fun-b-3 t c = search (rules, value_orders)
