-- What the tests know of a case.
use Rattle.std.specs.Prelude.{◌≡◌, IsTrue, false, List, [], map, Some}
use Rattle.cell_arena.specs.declared.kinds.CellKind.{CellKind}
use Rattle.expr_rewriter.specs.declared.cell_env.CellEnv.{CellEnv}
use Rattle.kernel_trees.specs.declared.kernel.Ker.{Ker}
use Rattle.kernel_trees.specs.declared.system.KerJob.{KerJob}
use Rattle.kernel_trees.specs.Sound.{sound}
use Rattle.kernel_trees.specs.Systems.{kinds_of_names}
use Rattle.kernel_trees.specs.TypeKinds.{Kind, all_there, kind_of}
use Rattle.cell_arena.specs.declared.kinds.CellId.{CellId}
use Rattle.snowcat_rows.specs.declared.types.Ty.{Ty}
use Rattle.rewriting_tests.specs.OfTypes.{OfTypes}

-- the type has a kind
pub record HasKind (t : Ty) : Type 0 where
  pub kind : Kind
  pub is : kind_of t ≡ Some kind

-- each of the types has one
pub record HaveKinds (types : List Ty) : Type 0 where
  pub names : List Kind
  pub kinds : all_there (map kind_of types) ≡ Some names

-- a tree that is sound where the names have the types of the job
pub record IsSoundIn (job : KerJob) (k : Ker) : Type 0 where
  pub names : List Kind
  pub kinds : kinds_of_names job ≡ Some names
  pub sound : IsTrue (sound names k [] false)

-- a cell of the type of each name in the state, and one in the next state; no number is bound
pub record HasCells (ks : List CellKind) (types : List Ty) (env : CellEnv) : Type 0 where
  pub following : List CellId
  pub current : OfTypes ks types env.now
  pub later : OfTypes ks types following
  pub next : env.next ≡ map Some following
  pub bound : env.bound ≡ []
