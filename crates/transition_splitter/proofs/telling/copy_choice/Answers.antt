use Rattle.std.proofs.Common.{◌∙◌}
use Rattle.std.proofs.lemmas.Iterator.{YieldsList-from_slice, YieldsList-from_zip}
use Rattle.std.proofs.lemmas.Iterator.Consumers.{YieldsList-at, YieldsList-end}
use Rattle.transition_splitter.proofs.telling.copy_choice.Goals as goal

pub returns : goal.returns
returns c =
    let ns = YieldsList-at c.zip-number-items.ensures.first
    (YieldsList-from_slice c.args.numbers.now c.iter.ensures.rest) in
    let ss = YieldsList-from_slice c.args.sets.now c.zip-number-items.ensures.second.0 in
    c.from_vec.ensures
    ∙ c.loop-number.invariant
    ∙ (YieldsList-end (YieldsList-at c.into_iter-number-iterator.ensures.into_iter_gives (YieldsList-from_zip ns ss))
    c.loop-number.yielded
    c.loop-number.number-iterator c.loop-number.yielded_by c.next.result c.next.new.self c.in-None.is
    c.next.ensures.steps).0
