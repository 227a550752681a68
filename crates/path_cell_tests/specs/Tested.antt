-- What the tests know of the paths of a job, and of the cells of its names.
use Rattle.std.specs.Prelude.{◌≡◌, ◌<◌, ℕ, IsTrue, List, [], All, flat_map, length, map, Option, Some, option_map, slice_get}
use Rattle.sat_formula.specs.declared.lit.Lit.{Lit}
use Rattle.tla_meaning.specs.declared.actions.Assignable.{Assignable}
use Rattle.tla_meaning.specs.declared.expr.Decl.{Decl}
use Rattle.tla_meaning.specs.declared.actions.Assignable.TheVariants as assignable
use Rattle.snowcat_rows.specs.declared.types.Ty.{Ty}
use Rattle.kernel_trees.specs.declared.kernel.Ker.{Ker}
use Rattle.kernel_trees.specs.declared.path.Assigned.{Assigned}
use Rattle.kernel_trees.specs.declared.path.AssignedStep.{AssignedStep}
use Rattle.kernel_trees.specs.declared.path.AssignedStep.TheVariants as mark
use Rattle.kernel_trees.specs.declared.system.KerJob.{KerJob}
use Rattle.kernel_trees.specs.declared.system.System.{System}
use Rattle.kernel_trees.specs.declared.action_kind.ActionKind.TheVariants as action
use Rattle.kernel_trees.specs.ActionNames.{constants, marks_of}
use Rattle.kernel_trees.specs.Assignments.{assigned_by, reads_late}
use Rattle.kernel_trees.specs.Paths.{Marks, marks_below}
use Rattle.kernel_trees.specs.Sound.{sound_assigned}
use Rattle.kernel_trees.specs.Systems.{sound_part}
use Rattle.kernel_trees.specs.TypeKinds.{Kind, all_there, kind_of}
use Rattle.kernel_shapes.specs.declared.bounds.Shape.{Shape as Code}
use Rattle.kernel_shapes.specs.Shape.{Shape}
use Rattle.shape_bounds.specs.Extents.{given_shapes}
use Rattle.shape_bounds.specs.Kept.{capped}
use Rattle.cell_arena.specs.declared.kinds.CellId.{CellId}
use Rattle.cell_arena.specs.declared.kinds.CellKind.{CellKind}
use Rattle.cell_merge.specs.Sorts.{OfSort}
use Rattle.typed_cells.specs.KindSorts.{sort_of}
use Rattle.expr_rewriter.specs.declared.cell_env.CellEnv.{CellEnv}
use Rattle.expr_rewriter.specs.Rewriting.{texts_in}
use Rattle.path_walks.specs.Paths.{HoldsCells, Items, blank, each_once, item_at}

-- ---- paths

-- sound steps that assign no name twice and read no marked one before its assignment
pub record AreSound (names : List Kind) (m : Marks) (zs : List AssignedStep) : Type 0 where
  pub sound : IsTrue (sound_assigned names [] zs)
  pub once : IsTrue (each_once (flat_map assigned_by zs))
  pub late : IsTrue (reads_late m [] zs)

-- so for the names of each kernel of which the action is a sound part
abbrev pub IsPathOf : Marks → Ker → Assigned → Type 0
IsPathOf m part a =
    (names : List Kind) (texts : List (List ℕ)) → IsTrue (sound_part names texts part) → AreSound names m a.steps

abbrev pub kinds_of : List Ty → Option (List Kind)
kinds_of types = all_there (map kind_of types)

-- so for the names of these types, of which the action may assign these
pub record IsTested (types : List Ty) (m : Assignable) (a : Assigned) : Type 0 where
  pub names : List Kind
  pub kinds : kinds_of types ≡ Some names
  pub are : AreSound names (marks_below (length types) m) a.steps

-- the names are those of the kernel, and no constant is among them
pub record AreVariables (names : List Decl) (k : KerJob) : Type 0 where
  pub none : constants names ≡ 0
  pub count : length names ≡ length k.names

-- these are the paths of Init and of Next
pub record ArePaths (names : List Decl) (k : KerJob) (start next : List Assigned) : Type 0 where
  pub starts : All (IsPathOf (marks_of action.Start names) k.init) start
  pub steps : All (IsPathOf (marks_of action.Step names) k.next) next

-- all names are variables
pub record IsTestedSystem (s : System) : Type 0 where
  pub start : All (IsTested s.ker.names (assignable.Variables 0)) s.start
  pub next : All (IsTested s.ker.names (assignable.PrimedVariables 0)) s.next

-- neither a text nor the name of a field stands in the trees of the step
abbrev pub IsTextlessStep : AssignedStep → Type 0
IsTextlessStep (mark.Guard k b) = texts_in k ≡ []
IsTextlessStep (mark.Pick ps) = All (λ p. texts_in p.1 ≡ []) ps
IsTextlessStep (mark.Equals i e) = texts_in e ≡ []
IsTextlessStep (mark.Among i e) = texts_in e ≡ []

-- ---- shapes and cells

-- the shapes are kept ones
pub record AreKept (shapes : List Code) : Type 0 where
  pub whole : List (Option Shape)
  pub kept : map (option_map capped) whole ≡ given_shapes shapes

-- one item for each name, the cell of which is of the name's type
pub record HasItemSorts (ks : List CellKind) (types : List Ty) (items : Items) : Type 0 where
  pub count : length items ≡ length types
  pub sorts : (names : List Kind) → kinds_of types ≡ Some names → (i : ℕ) (a : Kind) (y : CellId × Lit) →
      slice_get names i ≡ Some a → item_at items i ≡ Some y → OfSort ks (sort_of a) y.0

-- a cell of its type for each name
pub record AreStateCells (ks : List CellKind) (types : List Ty) (ids : List CellId) : Type 0 where
  pub count : length ids ≡ length types
  pub there : All (λ id. id.index < length ks) ids
  pub sorts : (names : List Kind) → kinds_of types ≡ Some names → (i : ℕ) (a : Kind) (id : CellId) →
      slice_get names i ≡ Some a → slice_get ids i ≡ Some id → OfSort ks (sort_of a) id

-- the path can be written but for its texts
pub record IsReady (ks : List CellKind) (env : CellEnv) (zs : List AssignedStep) : Type 0 where
  pub names : List Kind
  pub sound : IsTrue (sound_assigned names [] zs)
  pub once : IsTrue (each_once (flat_map assigned_by zs))
  pub cells : HoldsCells ks names [] env
  pub known : IsTrue (reads_late (blank env) [] zs)
