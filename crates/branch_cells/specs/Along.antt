-- Paths of an action over cells, from where they are taken. Source: Konnov, Kukovec and Tran, "TLA+ Model Checking Made
-- Symbolic", OOPSLA 2019, on symbolic transitions.
use Rattle.std.specs.Prelude.{◌≡◌, ◌<◌, IsTrue, List, [], ◌∷◌, All, length}
use Rattle.cell_arena.specs.declared.build.Build.{Build}
use Rattle.cell_arena.specs.Growth.{Grows}
use Rattle.kernel_shapes.specs.Sized.{Extent}
use Rattle.kernel_trees.specs.declared.path.Assigned.{Assigned}
use Rattle.kernel_trees.specs.Assignments.{reads_late}
use Rattle.kernel_trees.specs.Sound.{sound_assigned}
use Rattle.kernel_trees.specs.Systems.{assigns_once}
use Rattle.kernel_trees.specs.TypeKinds.{Kind}
use Rattle.path_bounds.specs.BoundedPaths.{HasPathBounds}
use Rattle.path_walks.specs.declared.answer.PathCells.{PathCells}
use Rattle.path_walks.specs.Paths.{HoldsCells, IsPathCells, blank}
use Rattle.shape_bounds.specs.Extents.{assigns_in, extent_of, kept_extent}
use Rattle.shape_bounds.specs.Kept.{IsWidth}
use Rattle.system_texts.specs.SystemTexts.{HasPathTexts}
use Rattle.branch_cells.specs.declared.branch.BranchCells.{BranchCells}
use Rattle.branch_cells.specs.declared.way.Way.{Way}
use Rattle.branch_cells.specs.Branches.{AreOfKinds, IsChoice, IsFilled}

-- ---- what is asked

-- the path can be rewritten from there: it is sound, assigns no name twice, reads no name without a cell before it assigns
-- it, and its texts are the build's
pub record CanFollow (b : Build) (names : List Kind) (way : Way) (x : Assigned) : Type 0 where
  pub sound : IsTrue (sound_assigned names [] x.steps)
  pub once : IsTrue (assigns_once x.steps)
  pub late : IsTrue (reads_late (blank way.env) [] x.steps)
  pub texts : HasPathTexts b.arena.texts x.steps

-- the way is of the build's width, its shapes are those of some extent, and its cells are of the types of their names
pub record IsReady (b : Build) (names : List Kind) (way : Way) : Type 0 where
  pub width : way.width ≡ b.arena.width
  pub sized : IsWidth way.width
  pub extent : Extent
  pub shapes : kept_extent extent ≡ extent_of way.now way.next []
  pub cells : HoldsCells b.arena.kinds names [] way.env
  pub others : AreOfKinds b.arena.kinds names way.others

pub record CanGoAlong (b : Build) (names : List Kind) (way : Way) (xs : List Assigned) : Type 0 where
  pub ready : IsReady b names way
  pub paths : All (CanFollow b names way) xs

-- ---- what is answered

-- the path with its bounds, as cells, and filled
pub record IsPart (old new : Build) (way : Way) (x : Assigned) (r : BranchCells) : Type 0 where
  pub bounded : Assigned
  pub bounds : (g : Extent) → kept_extent g ≡ extent_of way.now way.next [] →
      HasPathBounds way.width (assigns_in way.target) x g bounded
  pub middle : Build
  pub path : PathCells
  pub cells : IsPathCells old middle way.env bounded.steps path
  pub grows : Grows old middle
  pub filled : IsFilled middle new way.others path r
  pub there : All (λ id. id.index < length new.arena.kinds) r.next

-- somewhere between the two builds
pub record IsPartBetween (old new : Build) (way : Way) (x : Assigned) (r : BranchCells) : Type 0 where
  pub from : Build
  pub to : Build
  pub before : Grows old from
  pub part : IsPart from to way x r
  pub after : Grows to new

-- one part for each path
abbrev pub ArePartsBetween : Build → Build → Way → List Assigned → List BranchCells → Type 0
ArePartsBetween old new way [] [] = Unit {0}
ArePartsBetween old new way [] (r ∷ rs) = ⊥
ArePartsBetween old new way (x ∷ xs) [] = ⊥
ArePartsBetween old new way (x ∷ xs) (r ∷ rs) = IsPartBetween old new way x r × ArePartsBetween old new way xs rs

-- one of the paths, chosen freely
pub record IsAlong (old new : Build) (way : Way) (xs : List Assigned) (r : BranchCells) : Type 0 where
  pub middle : Build
  pub parts : List BranchCells
  pub are : ArePartsBetween old middle way xs parts
  pub choice : IsChoice middle new way.others parts r
