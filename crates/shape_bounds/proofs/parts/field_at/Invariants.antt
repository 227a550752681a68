use Rattle.std.proofs.Common.{◌≡◌, map, drop}
use Rattle.kernel_shapes.specs.Codes.{mean}
use Rattle.kernel_shapes.specs.Shape.{field, shapes}
use Rattle.shape_bounds.proofs.parts.field_at.Given as goal

abbrev pub invariant-loop-field : goal.invariant-loop-field
invariant-loop-field l = field l.x (map (λ f. f.0) l.fields) (shapes (map (λ f. mean f.1) l.fields))
    ≡ field l.x (map (λ f. f.0) (drop l.field-index l.fields)) (shapes (map (λ f. mean f.1) (drop l.field-index l.fields)))
