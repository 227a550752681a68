-- When two shapes are equal, as a test.
use Rattle.std.specs.Prelude.{Bool, true, false, ◌&&◌, nat_eq}
use Rattle.std.specs.Ordering.{int_eq}
use Rattle.kernel_shapes.specs.Shape.{Shape, Atom, Num, Set, Fun, Rec, Tup, Seq, Empty, Shapes, no_shapes, more_shapes, same_names}

abbrev mutual
  pub same : Shape → Shape → Bool
  same Atom Atom = true
  same (Num a b) (Num c d) = int_eq a c && int_eq b d
  same (Set n a) (Set m b) = nat_eq n m && same a b
  same (Fun n a r) (Fun m b s) = nat_eq n m && (same a b && same r s)
  same (Rec xs as') (Rec ys bs) = same_names xs ys && same_items as' bs
  same (Tup as') (Tup bs) = same_items as' bs
  same (Seq n a) (Seq m b) = nat_eq n m && same a b
  same Empty Empty = true
  same a b = false

  pub same_items : Shapes → Shapes → Bool
  same_items no_shapes no_shapes = true
  same_items (more_shapes a as') (more_shapes b bs) = same a b && same_items as' bs
  same_items as' bs = false
