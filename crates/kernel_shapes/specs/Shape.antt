-- Shapes: what bounds the sizes and the integers of values, and so the arenas in which these are encoded (Konnov,
-- Kukovec and Tran, "TLA+ Model Checking Made Symbolic", OOPSLA 2019, on arenas).
--
-- They are data of their own, and no type of the code: what it means that a value fits a shape is a type by recursion
-- on the shape, and recursion on a type of the code gives no types. Numbers of members are exact here; the code may
-- keep them capped.
use Rattle.std.specs.Prelude.{ℕ, zero, suc, ◌+◌, ◌-◌, ◌^◌, max, Bool, true, false, ◌&&◌, List, [], ◌∷◌, length, ℤ, pos, neg_ℤ, ◌-ℤ◌, if◌then◌else◌}
use Rattle.std.specs.Int.{int_max, int_min}
use Rattle.tla_meaning.specs.Scopes.{same_text}

mutual
  pub data Shape : Type 0 where
    -- a truth value or a text
    Atom : Shape
    -- the integers from the first to the second
    Num : ℤ → ℤ → Shape
    -- at most so many members, arguments or places, each of a shape
    Set : ℕ → Shape → Shape
    Fun : ℕ → Shape → Shape → Shape
    -- the fields in the order of their bytes
    Rec : List (List ℕ) → Shapes → Shape
    Tup : Shapes → Shape
    Seq : ℕ → Shape → Shape
    -- of no value
    Empty : Shape

  pub data Shapes : Type 0 where
    no_shapes : Shapes
    more_shapes : Shape → Shapes → Shapes

abbrev pub shapes : List Shape → Shapes
shapes [] = no_shapes
shapes (a ∷ as') = more_shapes a (shapes as')

-- the shape of a field, and of an item from 1 on
abbrev pub field : List ℕ → List (List ℕ) → Shapes → Shape
field x (y ∷ ys) (more_shapes a as') = if same_text x y then a else field x ys as'
field x ys as' = Empty

abbrev pub item : ℕ → Shapes → Shape
item n no_shapes = Empty
item zero (more_shapes a as') = Empty
item (suc zero) (more_shapes a as') = a
item (suc (suc n)) (more_shapes a as') = item (suc n) as'

-- what an operand's shape is read for
abbrev pub count : Shape → ℕ
count (Set n a) = n
count (Fun n a r) = n
count (Seq n a) = n
count (Tup no_shapes) = 0
count (Tup (more_shapes a as')) = count (Tup as') + 1
count (Rec xs as') = length xs
count a = 0

-- the members of a set, the arguments of a function, the places of a sequence
abbrev pub inside : Shape → Shape
inside (Set n a) = a
inside (Fun n a r) = a
inside (Seq n a) = a
inside a = Empty

abbrev pub result : Shape → Shape
result (Fun n a r) = r
result (Seq n a) = a
result a = Empty

-- ---- joins

-- the greater number, the hull of intervals, the join inside; Empty is neutral.
-- Two shapes of different kinds do not come in a typed tree, and here the first is taken.
abbrev mutual
  pub join : Shape → Shape → Shape
  join Empty b = b
  join (Num a b) (Num c d) = Num (int_min a c) (int_max b d)
  join (Set n a) (Set m b) = Set (max n m) (join a b)
  join (Fun n a r) (Fun m b s) = Fun (max n m) (join a b) (join r s)
  join (Seq n a) (Seq m b) = Seq (max n m) (join a b)
  join (Rec xs as') (Rec ys bs) = Rec xs (join_items as' bs)
  join (Tup as') (Tup bs) = Tup (join_items as' bs)
  join a b = a

  pub join_items : Shapes → Shapes → Shapes
  join_items no_shapes bs = no_shapes
  join_items (more_shapes a as') no_shapes = more_shapes a as'
  join_items (more_shapes a as') (more_shapes b bs) = more_shapes (join a b) (join_items as' bs)

-- the same names in the same order
abbrev pub same_names : List (List ℕ) → List (List ℕ) → Bool
same_names [] [] = true
same_names (x ∷ xs) (y ∷ ys) = same_text x y && same_names xs ys
same_names xs ys = false

-- whether two shapes are of one kind, so that they may be joined
abbrev mutual
  pub alike : Shape → Shape → Bool
  alike Empty b = true
  alike a Empty = true
  alike Atom Atom = true
  alike (Num a b) (Num c d) = true
  alike (Set n a) (Set m b) = alike a b
  alike (Fun n a r) (Fun m b s) = alike a b && alike r s
  alike (Seq n a) (Seq m b) = alike a b
  alike (Rec xs as') (Rec ys bs) = same_names xs ys && alike_items as' bs
  alike (Tup as') (Tup bs) = alike_items as' bs
  alike a b = false

  pub alike_items : Shapes → Shapes → Bool
  alike_items no_shapes no_shapes = true
  alike_items (more_shapes a as') (more_shapes b bs) = alike a b && alike_items as' bs
  alike_items as' bs = false

abbrev pub join_all : List Shape → Shape
join_all [] = Empty
join_all (a ∷ as') = join a (join_all as')

abbrev pub alike_all : List Shape → Bool
alike_all [] = true
alike_all (a ∷ as') = alike a (join_all as') && alike_all as'

-- ---- intervals

-- the ends of the width
abbrev pub lowest : ℕ → ℤ
lowest w = neg_ℤ (pos (2 ^ (w - 1)))

abbrev pub highest : ℕ → ℤ
highest w = pos (2 ^ (w - 1)) -ℤ pos 1

-- an end outside the width is moved to the nearest end of the width
abbrev pub moved : ℕ → ℤ → ℤ
moved w a = int_max (lowest w) (int_min (highest w) a)

abbrev pub interval : ℕ → ℤ → ℤ → Shape
interval w a b = Num (moved w a) (moved w b)

-- the hull over the ends of one or of two intervals
abbrev pub over_ends : ℕ → (ℤ → ℤ) → Shape → Shape
over_ends w f (Num a b) = interval w (int_min (f a) (f b)) (int_max (f a) (f b))
over_ends w f a = Empty

abbrev pub hull_of : ℕ → ℤ → ℤ → ℤ → ℤ → Shape
hull_of w a b c d = interval w (int_min (int_min a b) (int_min c d)) (int_max (int_max a b) (int_max c d))

abbrev pub over_both : ℕ → (ℤ → ℤ → ℤ) → Shape → Shape → Shape
over_both w f (Num a b) (Num c d) = hull_of w (f a c) (f a d) (f b c) (f b d)
over_both w f a b = Empty
