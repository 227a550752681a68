use Rattle.std.proofs.Common.{◌≡◌, ◌++◌, take, drop}
use Rattle.kernel_shapes.specs.Shape.{Shape}
use Rattle.kernel_shapes.specs.Rows.{put_field}
use Rattle.shape_bounds.specs.inner.Table.{fields_of}
use Rattle.shape_bounds.proofs.records.place_of.Given as goal

abbrev pub invariant-loop-i : goal.invariant-loop-i
invariant-loop-i l = (a : Shape) → put_field l.name a (fields_of l.fields) ≡ take l.i (fields_of l.fields) ++ put_field l.name a (drop l.i (fields_of l.fields))
