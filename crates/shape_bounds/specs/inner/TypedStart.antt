-- Shapes of types within bounds.
use Rattle.std.specs.Prelude.{◌≡◌, Bool, List, map, Some, if◌then◌else◌}
use Rattle.snowcat_rows.specs.declared.types.Ty.{Ty}
use Rattle.kernel_trees.specs.TypeKinds.{Kind, all_there, kind_of}
use Rattle.kernel_shapes.specs.declared.bounds.Bounds.{Bounds}
use Rattle.kernel_shapes.specs.declared.bounds.Shape.{Shape as Code}
use Rattle.kernel_shapes.specs.Codes.{mean}
use Rattle.kernel_shapes.specs.Levels.{Parts, typed_numbers}
use Rattle.kernel_shapes.specs.Shape.{Shape}
use Rattle.kernel_shapes.specs.TypedStates.{shape_of_kind, typed_first, typed_shapes}
use Rattle.shape_bounds.specs.declared.levels.Level.{Level}
use Rattle.shape_bounds.specs.inner.Stage.{IsOf}
use Rattle.shape_bounds.specs.Kept.{capped}

abbrev pub shape_in : Bounds → Kind → Shape
shape_in b k = shape_of_kind b.low b.high b.size k

-- the shape of a type that has a kind
abbrev pub IsOfType : Bounds → Ty → Shape → Type 0
IsOfType b t a = (k : Kind) → kind_of t ≡ Some k → a ≡ shape_in b k

abbrev pub AreOfTypes : Bounds → List Ty → List Shape → Type 0
AreOfTypes b ts as' = (ks : List Kind) → all_there (map kind_of ts) ≡ Some ks → as' ≡ map (shape_in b) ks

abbrev pub typed_in : Bounds → List Bool → List Shape → List Kind → List Shape
typed_in b bs as' ks = typed_shapes b.low b.high b.size bs as' ks

-- what a name has in a typed state: a constant its shape, a variable that of its type
abbrev pub IsTypedName : Bounds → Bool → Code → Ty → Code → Type 0
IsTypedName b f c t r = (k : Kind) → kind_of t ≡ Some k → mean r ≡ (if f then mean c else shape_in b k)

abbrev pub AreTypedNames : Bounds → List Bool → List Code → List Ty → List Code → Type 0
AreTypedNames b bs cs ts rs = (as' : List Shape) (ks : List Kind) → map capped as' ≡ map mean cs → all_there (map kind_of ts) ≡ Some ks →
    map capped (typed_in b bs as' ks) ≡ map mean rs

-- the level of a typed state
abbrev pub StartsTyped : Bounds → List Ty → Parts → Level → Type 0
StartsTyped b ts p r = (ks : List Kind) → all_there (map kind_of ts) ≡ Some ks → IsOf r (typed_first b.low b.high b.size p ks) (typed_numbers p)
