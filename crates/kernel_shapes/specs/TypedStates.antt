-- Shapes of types: of which type a shape is, and the first shapes of a state of which nothing is known but the types of
-- its names and the bounds of its values. Source for shapes: Konnov, Kukovec and Tran, "TLA+ Model
-- Checking Made Symbolic", OOPSLA 2019, on the static bounds of cells and arenas.
use Rattle.std.specs.Prelude.{ℕ, ℤ, ◌≡◌, Bool, true, false, List, [], ◌∷◌}
use Rattle.kernel_trees.specs.TypeKinds as kind
use Rattle.kernel_trees.specs.TypeKinds.{Kind, Kinds, Fields, no_kinds, more_kinds, no_fields, more_fields}
use Rattle.kernel_shapes.specs.Shape.{Shape, Atom, Num, Set, Fun, Rec, Tup, Seq, Empty, Shapes, no_shapes, more_shapes}
use Rattle.kernel_shapes.specs.Levels.{Parts, constant_shapes}

-- ---- of which type a shape is: Empty is of every type

abbrev mutual
  pub OfKind : Kind → Shape → Type 0
  OfKind k Empty = Unit {0}
  OfKind kind.Truth Atom = Unit {0}
  OfKind (kind.Word x) Atom = Unit {0}
  OfKind kind.Number (Num a b) = Unit {0}
  OfKind (kind.Set k) (Set n a) = OfKind k a
  OfKind (kind.Fun k l) (Fun n a r) = OfKind k a × OfKind l r
  OfKind (kind.Rec fs) (Rec xs as') = OfFields fs xs as'
  OfKind (kind.Tup ks) (Tup as') = OfKinds ks as'
  OfKind (kind.Seq k) (Seq n a) = OfKind k a
  OfKind k a = ⊥

  pub OfKinds : Kinds → Shapes → Type 0
  OfKinds no_kinds no_shapes = Unit {0}
  OfKinds (more_kinds k ks) (more_shapes a as') = OfKind k a × OfKinds ks as'
  OfKinds no_kinds (more_shapes a as') = ⊥
  OfKinds (more_kinds k ks) no_shapes = ⊥

  pub OfFields : Fields → List (List ℕ) → Shapes → Type 0
  OfFields no_fields [] no_shapes = Unit {0}
  OfFields (more_fields x k fs) (y ∷ ys) (more_shapes a as') = (x ≡ y) × OfKind k a × OfFields fs ys as'
  OfFields fs ys as' = ⊥

-- each shape is of its type
abbrev pub EachOfKind : List Kind → List Shape → Type 0
EachOfKind [] [] = Unit {0}
EachOfKind (k ∷ ks) (a ∷ as') = OfKind k a × EachOfKind ks as'
EachOfKind [] (a ∷ as') = ⊥
EachOfKind (k ∷ ks) [] = ⊥

-- ---- a typed state

-- the names of a record's fields
abbrev pub names_of_fields : Fields → List (List ℕ)
names_of_fields no_fields = []
names_of_fields (more_fields x k fs) = x ∷ names_of_fields fs

-- the type's shape with the least and the greatest number and the size in each place
abbrev mutual
  pub shape_of_kind : ℤ → ℤ → ℕ → Kind → Shape
  shape_of_kind low high size kind.Truth = Atom
  shape_of_kind low high size (kind.Word x) = Atom
  shape_of_kind low high size kind.Number = Num low high
  shape_of_kind low high size (kind.Set k) = Set size (shape_of_kind low high size k)
  shape_of_kind low high size (kind.Fun k l) = Fun size (shape_of_kind low high size k) (shape_of_kind low high size l)
  shape_of_kind low high size (kind.Rec fs) = Rec (names_of_fields fs) (shapes_of_fields low high size fs)
  shape_of_kind low high size (kind.Tup ks) = Tup (shapes_of_kinds low high size ks)
  shape_of_kind low high size (kind.Seq k) = Seq size (shape_of_kind low high size k)

  pub shapes_of_kinds : ℤ → ℤ → ℕ → Kinds → Shapes
  shapes_of_kinds low high size no_kinds = no_shapes
  shapes_of_kinds low high size (more_kinds k ks) =
      more_shapes (shape_of_kind low high size k) (shapes_of_kinds low high size ks)

  pub shapes_of_fields : ℤ → ℤ → ℕ → Fields → Shapes
  shapes_of_fields low high size no_fields = no_shapes
  shapes_of_fields low high size (more_fields x k fs) =
      more_shapes (shape_of_kind low high size k) (shapes_of_fields low high size fs)

-- a constant has its shape from CInit, and a variable that of its type
abbrev pub typed_shapes : ℤ → ℤ → ℕ → List Bool → List Shape → List Kind → List Shape
typed_shapes low high size (true ∷ bs) (a ∷ as') (k ∷ ks) = a ∷ typed_shapes low high size bs as' ks
typed_shapes low high size (false ∷ bs) (a ∷ as') (k ∷ ks) =
    shape_of_kind low high size k ∷ typed_shapes low high size bs as' ks
typed_shapes low high size bs as' ks = []

-- the shapes of the names at a typed state, by the types of the names
abbrev pub typed_first : ℤ → ℤ → ℕ → Parts → List Kind → List Shape
typed_first low high size p ks = typed_shapes low high size p.fixed (constant_shapes p) ks
