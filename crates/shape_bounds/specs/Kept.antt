-- Numbers of members, arguments and places as they are kept: the greatest that is kept stands for every greater one.
-- It is greater than each number of a width, so that no interval tells the difference.
use Rattle.std.specs.Prelude.{ℕ, ◌≡◌, Bool, true, false, min, ℤ, ◌+ℤ◌, ◌-ℤ◌, ◌*ℤ◌, ◌≤◌, Option, Some, None}
use Rattle.std.specs.Borrow.{Bor}
use Rattle.kernel_shapes.specs.Shape.{Shape, Atom, Num, Set, Fun, Rec, Tup, Seq, Empty, Shapes, no_shapes, more_shapes, result}
use Rattle.kernel_shapes.specs.declared.bounds.Shape.{Shape as Code}
use Rattle.kernel_shapes.specs.Codes.{mean}
use Rattle.kernel_shapes.specs.Rows.{Row, an_enumeration, a_range, a_union, a_part, a_shorter, a_big_union, the_subsets, the_functions, the_records, the_tuples, a_map, a_function, the_arguments, the_places, the_names, a_merge, a_sequence, an_append, a_concatenation}
use Rattle.shape_bounds.specs.declared.intervals.Arithmetic.{Arithmetic}
use Rattle.shape_bounds.specs.declared.intervals.Arithmetic.TheVariants as arithmetic

abbrev pub greatest_kept : ℕ
greatest_kept = 18446744073709551615

abbrev pub kept : ℕ → ℕ
kept n = min n greatest_kept

abbrev mutual
  pub capped : Shape → Shape
  capped Atom = Atom
  capped (Num a b) = Num a b
  capped (Set n a) = Set (kept n) (capped a)
  capped (Fun n a r) = Fun (kept n) (capped a) (capped r)
  capped (Rec xs as') = Rec xs (capped_items as')
  capped (Tup as') = Tup (capped_items as')
  capped (Seq n a) = Seq (kept n) (capped a)
  capped Empty = Empty

  pub capped_items : Shapes → Shapes
  capped_items no_shapes = no_shapes
  capped_items (more_shapes a as') = more_shapes (capped a) (capped_items as')

abbrev pub is_interval : Shape → Bool
is_interval (Num a b) = true
is_interval a = false

-- a width of at most 64 bits
pub record IsWidth (w : ℕ) : Type 0 where
  pub some : 1 ≤ w
  pub narrow : w ≤ 64

-- ---- arithmetic over the ends of two intervals

abbrev pub applied : Arithmetic → ℤ → ℤ → ℤ
applied arithmetic.Sum a b = a +ℤ b
applied arithmetic.Difference a b = a -ℤ b
applied arithmetic.Product a b = a *ℤ b

-- a part that is not there is Empty
abbrev pub part : Option (Bor Code) → Shape
part (Some a) = mean a.now
part None = Empty

-- what a function or a sequence gives
abbrev pub given : Shape → Shape
given a = result a

-- ---- rows: the numbers that a row itself makes are kept

abbrev pub kept_top : Shape → Shape
kept_top (Set n a) = Set (kept n) a
kept_top (Fun n a r) = Fun (kept n) a r
kept_top (Seq n a) = Seq (kept n) a
kept_top a = a

-- and those of its members
abbrev pub kept_members : Shape → Shape
kept_members (Set n a) = Set (kept n) (kept_top a)
kept_members a = a

abbrev pub kept_row : Row → Shape → Shape
kept_row an_enumeration a = kept_top a
kept_row a_range a = kept_top a
kept_row a_union a = kept_top a
kept_row a_part a = kept_top a
kept_row a_shorter a = kept_top a
kept_row a_big_union a = kept_top a
kept_row the_subsets a = kept_members a
kept_row the_functions a = kept_members a
kept_row (the_records xs) a = kept_top a
kept_row the_tuples a = kept_top a
kept_row (a_map n) a = kept_top a
kept_row (a_function n) a = kept_top a
kept_row the_arguments a = kept_top a
kept_row the_places a = kept_top a
kept_row the_names a = kept_top a
kept_row a_merge a = kept_top a
kept_row a_sequence a = kept_top a
kept_row an_append a = kept_top a
kept_row a_concatenation a = kept_top a
kept_row r a = a

-- the ends of an interval, and none of another shape
abbrev pub IsEnds : Shape → Option (ℤ × ℤ) → Type 0
IsEnds a (Some x) = a ≡ Num x.0 x.1
IsEnds a None = is_interval a ≡ false
