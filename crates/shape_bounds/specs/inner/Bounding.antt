-- Trees whose ranges get bounds, by the stacks at which they are evaluated.
use Rattle.std.specs.Prelude.{ℕ, ◌≡◌, Bool, List, [], ◌∷◌, map, flat_map, length, ℤ, Option, Some, if◌then◌else◌}
use Rattle.tla_meaning.specs.declared.place.Place.{Place}
use Rattle.tla_meaning.specs.Meaning.{role}
use Rattle.kernel_trees.specs.declared.kernel.Ker.{Ker, out-Ker, roll-Ker}
use Rattle.kernel_trees.specs.declared.kernel.Ker.TheOpen.{Ker-F}
use Rattle.kernel_trees.specs.Trees.{op_of}
use Rattle.kernel_shapes.specs.Kernel.{ker_shape}
use Rattle.kernel_shapes.specs.Shape.{join_all}
use Rattle.kernel_shapes.specs.Sized.{Extent}
use Rattle.kernel_shapes.specs.Trees.{marks_of}
use Rattle.tree_bounds.specs.Bounded.{Bounding, bounded_each, constant, with_bounds, with_ends}
use Rattle.shape_bounds.specs.declared.names.Names.{Names}
use Rattle.shape_bounds.specs.inner.Stacks.{Stack, Stand, Stays, extents_in}

-- the stacks of a child
abbrev pub chosen : Bool → List Stack → List Stack → List Stack
chosen inner us bs = if inner then us else bs

-- bounds behind the first two children
abbrev pub with_pair : Place → Option (ℤ × ℤ) → List Ker → List Ker
with_pair p (Some e) (x ∷ y ∷ ks) = x ∷ y ∷ constant p e.0 ∷ constant p e.1 ∷ []
with_pair p e ks = ks

-- a node with other children
abbrev pub node_with : Ker-F Ker → List Ker → Ker
node_with x ks = roll-Ker (record { place = x.place; ty = x.ty; op = x.op; args = ks; binds = x.binds })

-- the bounds that a node gets
pub record HasEnds (old new : Names) (k : Ker) (bs : List Stack) (r : Option (ℤ × ℤ)) : Type 0 where
  pub stays : Stays old new
  pub ends : (gs : List Extent) → Stand old bs gs → (ks : List Ker) →
      with_ends (out-Ker k).op (out-Ker k).place (join_all (map (ker_shape old.width k) gs)) ks
      ≡ with_pair (out-Ker k).place r ks

abbrev pub marks_at : Ker → List Bool
marks_at k = marks_of (role (op_of (out-Ker k).op) (length (out-Ker k).binds))

abbrev pub boundings : ℕ → List Ker → List (Ker × Bounding)
boundings w ks = map (λ k. (k, with_bounds w k)) ks

-- children, of which some are evaluated at other stacks
pub record AreBounded (old new : Names) (k : Ker) (bs us : List Stack) (rs : List Ker) : Type 0 where
  pub stays : Stays old new
  pub trees : (gs hs : List Extent) → Stand old bs gs → Stand old us hs →
      rs ≡ bounded_each (marks_at k) gs hs (boundings old.width (out-Ker k).args)

pub record AreChildren (old new : Names) (k : Ker) (bs : List Stack) (rs : List Ker) : Type 0 where
  pub stays : Stays old new
  pub trees : (gs : List Extent) → Stand old bs gs →
      rs ≡ bounded_each (marks_at k) gs (flat_map (extents_in old.width k) gs) (boundings old.width (out-Ker k).args)

pub record IsBounded (old new : Names) (k : Ker) (bs : List Stack) (r : Ker) : Type 0 where
  pub stays : Stays old new
  pub tree : (gs : List Extent) → Stand old bs gs → r ≡ with_bounds old.width k gs
