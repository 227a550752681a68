use Rattle.std.proofs.Common.{arith}
use Rattle.snowcat_types.proofs.SayingSteps.{nth_item, nth_none}
use Rattle.snowcat_types.proofs.saying.nth_of.Goals as goal

pub returns-then-i-len-clause-item : goal.returns-then-i-len-clause-item
returns-then-i-len-clause-item c =
    nth_item c.args.ts c.into_vec-items.result.items c.args.i c.remove.result c.into_vec-items.ensures
    (let a = c.len.ensures in let b = c.if-i-len.true in omega (arith, a, b)) c.remove.ensures.value

pub returns-clause-item : goal.returns-clause-item
returns-clause-item c =
    nth_none c.args.ts c.into_vec-items.result.items c.args.i c.into_vec-items.ensures (let a = c.len.ensures in let b = c.if-i-len.false in
    omega (arith, a, b))
