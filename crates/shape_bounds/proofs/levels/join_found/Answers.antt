use Rattle.std.proofs.Common.{◌∙◌, ap, length, map, sym}
use Rattle.kernel_shapes.specs.Sized.{found}
use Rattle.shape_bounds.specs.inner.Walks.{some_shapes}
use Rattle.shape_bounds.proofs.OverPaths.{found_joined}
use Rattle.shape_bounds.proofs.levels.join_found.Goals as goal

pub returns : goal.returns
returns c =
    found_joined c.in_ok-found.found c.as_slice-2.result.now c.args.shapes.now c.in_ok-joined.joined (map found (some_shapes c.args.names.now)) c.in_ok-found.ensures c.as_slice-2.ensures
    (ap length (c.as_slice-2.ensures ∙ sym c.as_slice.ensures) ∙ c.if-as_slice-shapes.false) c.in_ok-joined.ensures
