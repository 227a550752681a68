-- Stacks of bound numbers with shapes, each of which stands for an extent, and what is found at them.
use Rattle.std.specs.Prelude.{ℕ, ◌≡◌, List, [], ◌∷◌, ◌++◌, map, flat_map, option_map}
use Rattle.kernel_trees.specs.declared.kernel.Ker.{Ker, out-Ker}
use Rattle.kernel_trees.specs.Trees.{names_of}
use Rattle.kernel_shapes.specs.declared.bounds.Shape.{Shape as Code}
use Rattle.kernel_shapes.specs.Codes.{mean}
use Rattle.kernel_shapes.specs.Kernel.{ker_shape}
use Rattle.kernel_shapes.specs.Shape.{Shape}
use Rattle.kernel_shapes.specs.Sized.{Extent, bound_shapes}
use Rattle.tree_bounds.specs.Bounded.{extents_under}
use Rattle.shape_bounds.specs.declared.names.Names.{Names}
use Rattle.shape_bounds.specs.Extents.{kept_extent}
use Rattle.shape_bounds.specs.Kept.{capped}
use Rattle.shape_bounds.specs.Sizes.{bound_name}

abbrev pub Stack : Type 0
Stack = List (ℕ × Code)

-- the names that are declared have these shapes, and those of the stack are bound
abbrev pub stacked : Names → Stack → Extent
stacked s b = record {
  now = map (option_map mean) s.state.items;
  next = map (option_map mean) s.next.items;
  bound = map bound_name b;
}

-- stacks stand for extents, one for each
abbrev pub Stand : Names → List Stack → List Extent → Type 0
Stand s bs gs = map kept_extent gs ≡ map (stacked s) bs

-- what is declared stays
pub record Stays (old new : Names) : Type 0 where
  pub width : new.width ≡ old.width
  pub state : new.state ≡ old.state
  pub next : new.next ≡ old.next

-- what was bound, and is bound no more
pub record IsLeft (old new : Names) (r : Stack) : Type 0 where
  pub stays : Stays old new
  pub bound : r ≡ old.bound.items

-- further numbers have shapes
pub record IsExtended (old new : Names) (b : Stack) (xs : List ℕ) (as' : List Shape) (r : Stack) : Type 0 where
  pub stays : Stays old new
  pub bound : map bound_name r ≡ map bound_name b ++ bound_shapes (names_of xs) as'

-- what is bound at a step of a fold, by the shapes of the value so far and of the items
abbrev pub bound_at : Stack → List ℕ → Shape → Shape → List (List ℕ × Shape)
bound_at b xs item a = map bound_name b ++ bound_shapes (names_of xs) (a ∷ item ∷ [])

pub record AreAlong (old new : Names) (b : Stack) (xs : List ℕ) (as' : List Shape) (item : Shape) (rs : List Stack)
    : Type 0 where
  pub stays : Stays old new
  pub bound : map (map bound_name) rs ≡ map (bound_at b xs item) as'

-- the shape of a tree at a stack, and at each
pub record IsShape (old new : Names) (k : Ker) (b : Stack) (r : Code) : Type 0 where
  pub stays : Stays old new
  pub shape : (g : Extent) → kept_extent g ≡ stacked old b → capped (ker_shape old.width k g) ≡ mean r

pub record AreShapes (old new : Names) (k : Ker) (bs : List Stack) (rs : List Code) : Type 0 where
  pub stays : Stays old new
  pub shapes : (gs : List Extent) → Stand old bs gs →
      map (λ g. capped (ker_shape old.width k g)) gs ≡ map mean rs

abbrev pub extents_in : ℕ → Ker → Extent → List Extent
extents_in w k g = extents_under w (out-Ker k).op (out-Ker k).binds (out-Ker k).args g

-- the extents of what stands under the numbers that a node binds, and of all of them
pub record AreUnder (old new : Names) (k : Ker) (b : Stack) (rs : List Stack) : Type 0 where
  pub stays : Stays old new
  pub under : (g : Extent) → kept_extent g ≡ stacked old b → Stand old rs (extents_in old.width k g)

pub record AreUnderAll (old new : Names) (k : Ker) (bs rs : List Stack) : Type 0 where
  pub stays : Stays old new
  pub under : (gs : List Extent) → Stand old bs gs → Stand old rs (flat_map (extents_in old.width k) gs)
