use Rattle.std.proofs.Common.{[], ◌≡◌, ◌∙◌, List, ap, refl}
use Rattle.kernel_trees.specs.declared.path.AssignedStep.{AssignedStep}
use Rattle.shape_bounds.specs.Extents.{assigns_in, extent_of, kept_extent}
use Rattle.path_bounds.specs.BoundedPaths.{bounded_steps}
use Rattle.path_bounds.proofs.HasPathBounds.{each_has_path_bounds}
use Rattle.path_bounds.proofs.Passing.{from_start}
use Rattle.path_bounds.proofs.bounding.bounded_path.Goals as goal

pub returns : goal.returns
returns c =
    each_has_path_bounds c.args.width (assigns_in c.args.target) c.args.path.now _ (λ g. kept_extent g ≡ extent_of c.args.now.now c.args.next.now []) refl
    (λ g e.
    c.from_vec.ensures
    ∙ from_start c.in_ok-walk.walk c.args.width c.args.target c.args.now.now c.args.next.now c.as_slice.result.now c.in_ok-steps.steps.items c.in_ok-walk.ensures c.in_ok-steps.ensures g e
    ∙ ap (λ (zs : List AssignedStep). bounded_steps c.args.width (assigns_in c.args.target) zs g) c.as_slice.ensures)
