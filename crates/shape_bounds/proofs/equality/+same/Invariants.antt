use Rattle.std.proofs.Common.{◌≡◌, ◌&&◌, map, drop, length}
use Rattle.kernel_shapes.specs.Codes.{mean}
use Rattle.kernel_shapes.specs.Shape.{same_names, shapes}
use Rattle.shape_bounds.specs.inner.Equality.{same_items}
use Rattle.shape_bounds.proofs.equality.+same.Given as goal

abbrev pub invariant-are_same-loop-i : goal.invariant-are_same-loop-i
invariant-are_same-loop-i l =
    same_items (shapes (map mean l.xs)) (shapes (map mean l.ys)) ≡ same_items (shapes (map mean (drop l.i l.xs))) (shapes (map mean (drop l.i l.ys)))

abbrev pub invariant-same_fields-loop-i : goal.invariant-same_fields-loop-i
invariant-same_fields-loop-i l =
    (same_names (map (λ x. x.0) l.xs) (map (λ y. y.0) l.ys) && same_items (shapes (map (λ x. mean x.1) l.xs)) (shapes (map (λ y. mean y.1) l.ys)))
    ≡ (same_names (map (λ x. x.0) (drop l.i l.xs)) (map (λ y. y.0) (drop l.i l.ys))
    && same_items (shapes (map (λ x. mean x.1) (drop l.i l.xs))) (shapes (map (λ y. mean y.1) (drop l.i l.ys))))
