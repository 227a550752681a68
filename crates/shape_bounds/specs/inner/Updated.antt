-- Updates along a path of indexes, as a walk finds them.
use Rattle.std.specs.Prelude.{ℕ, ◌≡◌, Bool, true, false, ◌&&◌, nat_eq, List, [], ◌∷◌, map, length, ℤ}
use Rattle.tla_meaning.specs.declared.place.Place.{Place}
use Rattle.tla_meaning.specs.Symbols.{same_place}
use Rattle.kernel_trees.specs.declared.kernel.Ker.{Ker, out-Ker}
use Rattle.kernel_trees.specs.declared.kernel.KerOp.{KerOp}
use Rattle.kernel_trees.specs.declared.kernel.KerOp.TheVariants as ker
use Rattle.kernel_trees.specs.Trees.{names_of}
use Rattle.kernel_shapes.specs.declared.bounds.Shape.{Shape as Code}
use Rattle.kernel_shapes.specs.Codes.{mean}
use Rattle.kernel_shapes.specs.Kernel.{ker_sized}
use Rattle.kernel_shapes.specs.Rows.{changed_at, field_changed, number}
use Rattle.kernel_shapes.specs.Shape.{Shape, Tup, join, shapes}
use Rattle.kernel_shapes.specs.Sized.{Extent, Sizing, bind_shapes, child_at, right_counts}
use Rattle.shape_bounds.specs.declared.names.Names.{Names}
use Rattle.shape_bounds.specs.inner.Joined.{joined_one}
use Rattle.shape_bounds.specs.Kept.{capped}
use Rattle.shape_bounds.specs.Sizes.{Finds, Reads, SameNames, all_at}

-- ---- whether a right side goes on along the path

abbrev pub is_update : KerOp → Bool
is_update ker.Update = true
is_update o = false

-- what is bound under the number
abbrev pub is_number : ℕ → KerOp → Bool
is_number n (ker.Bound m) = nat_eq m n
is_number n o = false

abbrev pub begins_with : ℕ → List Ker → Bool
begins_with n [] = false
begins_with n (k ∷ ks) = is_number n (out-Ker k).op

-- an update at the same place of what the outer one binds
abbrev pub goes_on : Place → ℕ → Ker → Bool
goes_on p n k = is_update (out-Ker k).op && (same_place p (out-Ker k).place && begins_with n (out-Ker k).args)

-- ---- the place of an index, from 0: of none it is the number of items or fields

pub record IsItemAt (n : ℤ) (m p : ℕ) : Type 0 where
  pub changed : (b : Shape) (as' : List Shape) → length as' ≡ m → changed_at (Tup (shapes as')) (number n) (λ a. join a b) ≡ Tup (shapes (joined_one p b as'))

pub record IsFieldAt (x : List ℕ) (fs : List (List ℕ × Code)) (p : ℕ) : Type 0 where
  pub changed : (b : Shape) → field_changed x (λ a. join a b) (map (λ f. f.0) fs) (shapes (map (λ f. mean f.1) fs)) ≡ shapes (joined_one p b (map (λ f. mean f.1) fs))

-- ---- what is found

-- the shape of what a node updates
abbrev pub whole_at : ℕ → Ker → Extent → Shape
whole_at w k g = (child_at 0 (all_at (map (ker_sized w) (out-Ker k).args) g)).shape

-- the rest of a path of indexes is looked at: what is updated has a shape, and is not counted
pub record SizesBeyond (old new : Names) (w : ℕ) (k : Ker) (whole : Shape) (r : Code) : Type 0 where
  pub same : SameNames old new
  pub shape : (g : Extent) → Reads old g → capped (whole_at w k g) ≡ whole → capped (ker_sized w k g).shape ≡ mean r
  pub finds : (g : Extent) → Reads old g → capped (whole_at w k g) ≡ whole → Finds old new (ker_sized w k g).beyond

-- a right side is looked at where further numbers have these shapes; `b` says whether it goes on along the path
pub record SizesRight (old new : Names) (b : Bool) (z : Sizing) (xs : List ℕ) (as' : List Shape) (r : Code) : Type 0 where
  pub same : SameNames old new
  pub shape : (g : Extent) (bs : List Shape) → Reads old g → map capped bs ≡ as' → capped (z (bind_shapes (names_of xs) bs g)).shape ≡ mean r
  pub finds : (g : Extent) (bs : List Shape) → Reads old g → map capped bs ≡ as' → Finds old new (right_counts b (z (bind_shapes (names_of xs) bs g)))
