use Rattle.std.proofs.Common.{◌≡◌, map, take}
use Rattle.kernel_shapes.specs.Codes.{mean}
use Rattle.shape_bounds.specs.inner.Joined.{joined_one}
use Rattle.shape_bounds.proofs.updates.join_field.Given as goal

abbrev pub invariant-loop-i : goal.invariant-loop-i
invariant-loop-i l = (map (λ z. z.0) l.joined.items ≡ take l.i (map (λ x. x.0) l.fields))
    × (map (λ z. mean z.1) l.joined.items ≡ take l.i (joined_one l.place (mean l.new) (map (λ x. mean x.1) l.fields)))
