use Rattle.std.proofs.Common.{◌∙◌, ap, refl}
use Rattle.kernel_shapes.specs.Codes.{mean}
use Rattle.shape_bounds.specs.Extents.{given_shape, given_shapes}
use Rattle.path_bounds.specs.BoundedPaths.{put_shape}
use Rattle.path_bounds.proofs.Passing.{assigned_next, assigned_state}
use Rattle.path_bounds.proofs.walk.Walk.assign.Goals as goal

pub returns-in-Next : goal.returns-in-Next
returns-in-Next c = assigned_next c.args.self.now _ c.args.i (mean c.args.shape) c.in-Next.is refl refl refl refl c.put.ensures

pub returns-in_ok-copy-in-State : goal.returns-in_ok-copy-in-State
returns-in_ok-copy-in-State c =
    assigned_state c.args.self.now _ c.args.i (mean c.args.shape) c.in-State.is refl refl refl
    (c.put-in-State.ensures ∙ ap (λ s. put_shape c.args.i (given_shape (mean s)) (given_shapes c.args.self.now.state)) c.in_ok-copy-in-State.ensures)
    c.put-in-State-2.ensures
