use Rattle.std.proofs.Common.{◌≡◌, map, take}
use Rattle.kernel_shapes.specs.Codes.{mean}
use Rattle.shape_bounds.specs.inner.Joined.{joined_each}
use Rattle.shape_bounds.proofs.joins.+join.Given as goal

abbrev pub invariant-join_fields-loop-i : goal.invariant-join_fields-loop-i
invariant-join_fields-loop-i l = (map (λ z. z.0) l.fields.items ≡ take l.i (map (λ x. x.0) l.xs))
    × (map (λ z. mean z.1) l.fields.items ≡ take l.i (joined_each (map (λ x. mean x.1) l.xs) (map (λ y. mean y.1) l.ys)))

abbrev pub invariant-join_items-loop-i : goal.invariant-join_items-loop-i
invariant-join_items-loop-i l = map mean l.items.items ≡ take l.i (joined_each (map mean l.xs) (map mean l.ys))
