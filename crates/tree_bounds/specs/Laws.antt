-- What is said of a tree whose ranges carry bounds. Source: Konnov, Kukovec and Tran, "TLA+ Model Checking Made
-- Symbolic", OOPSLA 2019, on the static bounds of cells and arenas.
use Rattle.std.specs.Prelude.{ℕ, ◌≤◌, ◌≡◌, not, Bool, IsTrue, List, Some}
use Rattle.std.specs.List.{AllByRecursion, Contains}
use Rattle.tla_meaning.specs.declared.job.State.{State}
use Rattle.tla_meaning.specs.Numbers.{Width}
use Rattle.tla_meaning.specs.Scopes.{Scope}
use Rattle.kernel_trees.specs.declared.kernel.Ker.{Ker}
use Rattle.kernel_trees.specs.Paths.{Marks, mentions}
use Rattle.kernel_trees.specs.Sound.{Context, sound}
use Rattle.kernel_trees.specs.Trees.{ker_form, ker_val}
use Rattle.kernel_trees.specs.TypeKinds.{Kind}
use Rattle.kernel_shapes.specs.Kernel.{ker_sized}
use Rattle.kernel_shapes.specs.Laws.{Ready}
use Rattle.kernel_shapes.specs.Sized.{Extent}
use Rattle.kernel_shapes.specs.TypedExtents.{OfTypes, without_shape}
use Rattle.kernel_ranges.specs.Ranges.{is_within}
use Rattle.tree_bounds.specs.Bounded.{with_bounds}

-- the tree with bounds has the outcome of the tree, with its place, and its form as the right side of a membership
abbrev pub SameOutcome : ℕ → Ker → List Extent → Width → Scope → State → State → Type 0
SameOutcome n k gs w sc s t = ker_val w (with_bounds n k gs) sc s t ≡ ker_val w k sc s t

abbrev pub SameForm : ℕ → Ker → List Extent → Width → Scope → State → State → Type 0
SameForm n k gs w sc s t = ker_form w (with_bounds n k gs) sc s t ≡ ker_form w k sc s t

-- it reads the names that the tree reads; what is computed of the tree, its shape and the numbers that are held against
-- limits, is computed of it
abbrev pub SameNames : ℕ → Ker → List Extent → Marks → Type 0
SameNames n k gs m = mentions m (with_bounds n k gs) ≡ mentions m k

abbrev pub SameShape : ℕ → Ker → List Extent → ℕ → Type 0
SameShape n k gs w = ker_sized w (with_bounds n k gs) ≡ ker_sized w k

-- it is sound where the tree is
abbrev pub StaysSound : ℕ → List Kind → Ker → Context → Bool → List Extent → Type 0
StaysSound w names k c b gs = IsTrue (sound names k c b) → IsTrue (sound names (with_bounds w k gs) c b)

-- an extent of the types of the names, in which each name that the tree reads has a shape
pub record Covers (names : List Kind) (c : Context) (k : Ker) (g : Extent) : Type 0 where
  pub types : OfTypes names c g
  pub reads : IsTrue (not (mentions (without_shape g) k))

-- where bound names and states fit one of the extents by which the bounds are, each range that the evaluation comes to
-- lies within its bounds. (At a width of one bit a value need not fit its shape.)
abbrev pub RangesLie :
    ℕ → List Kind → Ker → Context → Bool → List Extent → Extent → Scope → State → State → Type 0
RangesLie w names k c b gs g sc s t =
    2 ≤ w → IsTrue (sound names k c b) → AllByRecursion (Covers names c k) gs → Contains gs g → Ready sc g s t →
    IsTrue (is_within (Some w) (with_bounds w k gs) sc s t)
