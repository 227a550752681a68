use Rattle.std.proofs.Common.{◌∙◌, arith}
use Rattle.tla_evaluator.proofs.Words.{common_steps}
use Rattle.std.proofs.lemmas.Iterator.{YieldsList-from_slice, YieldsList-from_zip}
use Rattle.std.proofs.lemmas.Iterator.Adapters.{YieldsList-from_vec}
use Rattle.std.proofs.lemmas.Iterator.Consumers.{YieldsList-at, YieldsList-end}
use Rattle.tla_evaluator.proofs.functions.paired.Goals as goal

pub returns : goal.returns
returns c =
    let keys = YieldsList-at c.zip-argument-items.ensures.first (YieldsList-from_slice c.args.arguments.now c.iter.ensures.rest) in
    let values = YieldsList-from_vec c.args.values.items c.zip-argument-items.ensures.second.0 (let n = c.zip-argument-items.ensures.second.1 in grind (arith, n, common_steps)) in
    c.loop-argument.invariant ∙ (YieldsList-end (YieldsList-at c.into_iter-argument-iterator.ensures.into_iter_gives (YieldsList-from_zip keys values)) c.loop-argument.yielded c.loop-argument.argument-iterator c.loop-argument.yielded_by c.next.result c.next.new.self c.in-None.is c.next.ensures.steps).0
