use Rattle.std.proofs.Common.{◌≡◌, take}
use Rattle.kernel_shapes.proofs.bounds.+copy.Given as goal

abbrev pub invariant-copy_items-loop-shape : goal.invariant-copy_items-loop-shape
invariant-copy_items-loop-shape l = l.items.items ≡ take l.shape-index l.shapes

abbrev pub invariant-copy_fields-loop-field : goal.invariant-copy_fields-loop-field
invariant-copy_fields-loop-field l = l.items.items ≡ take l.field-index l.fields
