-- The table of shapes: a row for each kind of node, by the shapes of its children. Source: Konnov, Kukovec and Tran,
-- "TLA+ Model Checking Made Symbolic", OOPSLA 2019, on the static bounds of cells and arenas.
use Rattle.std.specs.Prelude.{ℕ, zero, suc, ◌+◌, ◌*◌, ◌^◌, max, List, [], ◌∷◌, map, length, ℤ, pos, ◌+ℤ◌, ◌-ℤ◌, ◌*ℤ◌, neg_ℤ, nat_abs, int_le, if◌then◌else◌}
use Rattle.std.specs.Int.{int_max}
use Rattle.std.specs.Ordering.{is_lt}
use Rattle.tla_values.specs.Order.{text_cmp}
use Rattle.tla_meaning.specs.Scopes.{same_text}
use Rattle.kernel_shapes.specs.Shape.{Shape, Atom, Num, Set, Fun, Rec, Tup, Seq, Empty, Shapes, no_shapes, more_shapes, shapes, field, item, count, inside, result, join, join_all, interval, over_ends, over_both}

-- an index that is written out
pub data Literal : Type 0 where
  no_literal : Literal
  number : ℤ → Literal
  text : List ℕ → Literal

-- the rows; the children are those of the node, and behind a binder's sets stands its body
pub data Row : Type 0 where
  -- a truth value or a text
  a_truth : Row
  a_number : ℤ → Row
  a_sum : Row
  a_difference : Row
  a_product : Row
  a_negation : Row
  a_power : ℕ → Row
  a_quotient : Row
  a_remainder : Row
  a_size : Row
  a_length : Row
  an_enumeration : Row
  a_range : Row
  a_union : Row
  -- Cap, Minus, Filter: the left shape; so for Tail and SubSeq
  a_part : Row
  a_shorter : Row
  a_big_union : Row
  -- sets that are walked or not
  the_subsets : Row
  the_functions : Row
  the_records : List (List ℕ) → Row
  the_tuples : Row
  the_truths : Row
  -- `a_map n`, `a_function n`: n sets and the body
  a_map : ℕ → Row
  a_function : ℕ → Row
  -- IF and CASE
  a_choice : Row
  -- f[e], r.x, Head
  an_application : Row
  a_field : List ℕ → Row
  a_head : Row
  -- DOMAIN of a function, of a sequence or tuple, of a record
  the_arguments : Row
  the_places : Row
  the_names : Row
  a_merge : Row
  a_single : Row
  a_record : List (List ℕ) → Row
  a_tuple : Row
  a_sequence : Row
  an_append : Row
  a_concatenation : Row

abbrev pub set_of_interval : ℕ → Shape → Shape → Shape
set_of_interval w (Num a b) (Num c d) = Set (if int_le a d then nat_abs (d -ℤ a) + 1 else 0) (Num a d)
set_of_interval w a b = Set 0 Empty

abbrev pub nth : {X : Type 0} → X → ℕ → List X → X
nth d n [] = d
nth d zero (x ∷ xs) = x
nth d (suc n) (x ∷ xs) = nth d n xs

abbrev pub product_of : List Shape → ℕ
product_of [] = 1
product_of (a ∷ as') = count a * product_of as'

abbrev pub insides : List Shape → List Shape
insides [] = []
insides (a ∷ as') = inside a ∷ insides as'

-- the shape of one argument, or of the tuple of several
abbrev pub argument_of : List Shape → Shape
argument_of (a ∷ []) = inside a
argument_of as' = Tup (shapes (insides as'))

abbrev pub power_shape : ℕ → ℕ → Shape → Shape
power_shape w zero a = Num (pos 1) (pos 1)
power_shape w (suc zero) a = a
power_shape w (suc (suc n)) a = over_both w (λ x y. x *ℤ y) (power_shape w (suc n) a) a

abbrev pub quotient_shape : ℕ → Shape → Shape
quotient_shape w (Num a b) =
    let m : ℕ = max (nat_abs a) (nat_abs b) in interval w (neg_ℤ (pos m)) (pos m)
quotient_shape w a = Empty

abbrev pub remainder_shape : ℕ → Shape → Shape
remainder_shape w (Num a b) = interval w (pos 0) (int_max (pos 0) (b -ℤ pos 1))
remainder_shape w a = Empty

-- the value at an index
abbrev pub applied_at : Shape → Literal → Shape
applied_at (Tup as') (number (pos n)) = item n as'
applied_at (Rec xs as') (text x) = field x xs as'
applied_at a l = result a

-- the branches: each guard is followed by its own, and the one of ELSE or OTHER stands last
abbrev pub branches_of : List Shape → List Shape
branches_of [] = []
branches_of (a ∷ []) = a ∷ []
branches_of (a ∷ b ∷ as') = b ∷ branches_of as'

abbrev pub but_last : List Shape → List Shape
but_last [] = []
but_last (a ∷ []) = []
but_last (a ∷ b ∷ as') = a ∷ but_last (b ∷ as')

abbrev pub last_of : List Shape → Shape
last_of [] = Empty
last_of (a ∷ []) = a
last_of (a ∷ b ∷ as') = last_of (b ∷ as')

-- fields in the order of their bytes
abbrev pub put_field : List ℕ → Shape → List (List ℕ × Shape) → List (List ℕ × Shape)
put_field x a [] = (x, a) ∷ []
put_field x a (y ∷ ys) = if is_lt (text_cmp x y.0) then (x, a) ∷ y ∷ ys else y ∷ put_field x a ys

abbrev pub in_order : List (List ℕ) → List Shape → List (List ℕ × Shape)
in_order (x ∷ xs) (a ∷ as') = put_field x a (in_order xs as')
in_order xs as' = []

abbrev pub record_shape : List (List ℕ) → List Shape → Shape
record_shape xs as' = Rec (map (λ y. y.0) (in_order xs as')) (shapes (map (λ y. y.1) (in_order xs as')))

-- the shape that a row gives, where sets of functions and the like are walked;
-- `l` is the literal that stands as the second child
abbrev pub row_shape : ℕ → Row → Literal → List Shape → Shape
row_shape w a_truth l as' = Atom
row_shape w (a_number n) l as' = interval w n n
row_shape w a_sum l (a ∷ b ∷ as') = over_both w (λ x y. x +ℤ y) a b
row_shape w a_difference l (a ∷ b ∷ as') = over_both w (λ x y. x -ℤ y) a b
row_shape w a_product l (a ∷ b ∷ as') = over_both w (λ x y. x *ℤ y) a b
row_shape w a_negation l (a ∷ as') = over_ends w (λ x. neg_ℤ x) a
row_shape w (a_power n) l (a ∷ as') = power_shape w n a
row_shape w a_quotient l (a ∷ as') = quotient_shape w a
row_shape w a_remainder l (a ∷ b ∷ as') = remainder_shape w b
row_shape w a_size l (a ∷ as') = interval w (pos 0) (pos (count a))
row_shape w a_length l (a ∷ as') = interval w (pos 0) (pos (count a))
row_shape w an_enumeration l as' = Set (length as') (join_all as')
row_shape w a_range l (a ∷ b ∷ as') = set_of_interval w a b
row_shape w a_union l (a ∷ b ∷ as') = Set (count a + count b) (join (inside a) (inside b))
row_shape w a_shorter l (a ∷ as') = Seq (count a) (inside a)
row_shape w a_part l (a ∷ as') = Set (count a) (inside a)
row_shape w a_big_union l (a ∷ as') = Set (count a * count (inside a)) (inside (inside a))
row_shape w the_subsets l (a ∷ as') = Set (2 ^ count a) (Set (count a) (inside a))
row_shape w the_functions l (a ∷ b ∷ as') = Set (max 1 (count b ^ count a)) (Fun (count a) (inside a) (inside b))
row_shape w (the_records xs) l as' = Set (product_of as') (record_shape xs (insides as'))
row_shape w the_tuples l as' = Set (product_of as') (Tup (shapes (insides as')))
row_shape w the_truths l as' = Set 2 Atom
row_shape w (a_map n) l as' = Set (product_of (but_last as')) (last_of as')
row_shape w (a_function n) l as' = Fun (product_of (but_last as')) (argument_of (but_last as')) (last_of as')
row_shape w a_choice l as' = join_all (branches_of as')
row_shape w an_application l (a ∷ as') = applied_at a l
row_shape w (a_field x) l (a ∷ as') = applied_at a (text x)
row_shape w a_head l (a ∷ as') = result a
row_shape w the_arguments l (a ∷ as') = Set (count a) (inside a)
row_shape w the_places l (a ∷ as') = Set (count a) (interval w (pos 1) (pos (count a)))
row_shape w the_names l (a ∷ as') = Set (count a) Atom
row_shape w a_merge l (a ∷ b ∷ as') = Fun (count a + count b) (join (inside a) (inside b)) (join (result a) (result b))
row_shape w a_single l (a ∷ b ∷ as') = Fun 1 a b
row_shape w (a_record xs) l as' = record_shape xs as'
row_shape w a_tuple l as' = Tup (shapes as')
row_shape w a_sequence l as' = Seq (length as') (join_all as')
row_shape w an_append l (a ∷ b ∷ as') = Seq (count a + 1) (join (inside a) b)
row_shape w a_concatenation l (a ∷ b ∷ as') = Seq (count a + count b) (join (inside a) (inside b))
row_shape w r l as' = Empty

-- ---- EXCEPT

-- the shape at a path of indexes
abbrev pub shape_at : Shape → List Literal → Shape
shape_at a [] = a
shape_at a (l ∷ ls) = shape_at (applied_at a l) ls

-- the items with a change at the n-th from 1, the fields with a change at a name
abbrev pub item_changed : ℕ → (Shape → Shape) → Shapes → Shapes
item_changed n f no_shapes = no_shapes
item_changed zero f (more_shapes a as') = more_shapes a as'
item_changed (suc zero) f (more_shapes a as') = more_shapes (f a) as'
item_changed (suc (suc n)) f (more_shapes a as') = more_shapes a (item_changed (suc n) f as')

abbrev pub field_changed : List ℕ → (Shape → Shape) → List (List ℕ) → Shapes → Shapes
field_changed x f (y ∷ ys) (more_shapes a as') =
    if same_text x y then more_shapes (f a) as' else more_shapes a (field_changed x f ys as')
field_changed x f ys as' = as'

abbrev pub changed_at : Shape → Literal → (Shape → Shape) → Shape
changed_at (Tup as') (number (pos n)) f = Tup (item_changed n f as')
changed_at (Rec xs as') (text x) f = Rec xs (field_changed x f xs as')
changed_at (Fun n a r) l f = Fun n a (f r)
changed_at (Seq n a) l f = Seq n (f a)
changed_at a l f = a

-- the join of the old shape with a new one at the end of a path
abbrev pub joined_at : List Literal → Shape → Shape → Shape
joined_at [] new a = join a new
joined_at (l ∷ ls) new Empty = Empty
joined_at (l ∷ ls) new a = changed_at a l (joined_at ls new)

-- ---- folds: the n + 1 values that the body reaches

abbrev pub reached_by : ℕ → (Shape → Shape) → Shape → Shape
reached_by zero f a = a
reached_by (suc n) f a = join a (reached_by n f (f a))
