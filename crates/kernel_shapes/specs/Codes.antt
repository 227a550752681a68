-- The shape that one of the code means.
use Rattle.std.specs.Prelude.{map}
use Rattle.kernel_shapes.specs.declared.bounds.Shape.{Shape as Code}
use Rattle.kernel_shapes.specs.declared.bounds.Shape.TheOpen as code
use Rattle.kernel_shapes.specs.declared.bounds.Shape.TheFolds.{fold-Shape}
use Rattle.kernel_shapes.specs.Shape.{Shape, Atom, Num, Set, Fun, Rec, Tup, Seq, Empty, shapes}

abbrev pub mean_layer : code.Shape-F Shape → Shape
mean_layer code.Atom = Atom
mean_layer (code.Num low high) = Num low high
mean_layer (code.Set n a) = Set n a
mean_layer (code.Fun n a r) = Fun n a r
mean_layer (code.Rec fs) = Rec (map (λ f. f.0) fs) (shapes (map (λ f. f.1) fs))
mean_layer (code.Tup as') = Tup (shapes as')
mean_layer (code.Seq n a) = Seq n a
mean_layer code.Empty = Empty

unfoldable pub mean : Code → Shape
mean = fold-Shape Shape mean_layer
