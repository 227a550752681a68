use Rattle.std.proofs.Common.{◌∙◌, ap, map}
use Rattle.std.proofs.lemmas.Iterator.{YieldsList-from_slice, YieldsList-from_zip}
use Rattle.std.proofs.lemmas.Iterator.Consumers.{YieldsList-at, YieldsList-end}
use Rattle.step_encoder.proofs.Each.{shapes_zip, shape_of_pair}
use Rattle.step_encoder.proofs.names.constant_shapes.Goals as goal

pub returns : goal.returns
returns c =
    let bs = YieldsList-at c.zip-constant-items.ensures.first
    (YieldsList-from_slice c.args.fixed.now c.iter.ensures.rest) in
    let xs = YieldsList-from_slice c.args.shapes.now c.zip-constant-items.ensures.second.0 in
    c.loop-constant.invariant
    ∙ (ap (map shape_of_pair)
    (YieldsList-end (YieldsList-at c.into_iter-constant-iterator.ensures.into_iter_gives (YieldsList-from_zip bs xs))
    c.loop-constant.yielded
    c.loop-constant.constant-iterator c.loop-constant.yielded_by c.next.result c.next.new.self c.in-None.is
    c.next.ensures.steps).0
    ∙ shapes_zip c.args.fixed.now c.args.shapes.now)
