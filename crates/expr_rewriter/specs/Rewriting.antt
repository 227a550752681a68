-- What a kernel tree is as cells. Source: Konnov, Kukovec and Tran, "TLA+ Model Checking Made Symbolic", OOPSLA 2019,
-- section 5, for the rewriting of expressions to cells.
use Rattle.std.specs.Prelude.{◌≡◌, ℕ, Bool, false, IsTrue, List, [], ◌∷◌, ◌++◌, All, flat_map, Option, Some, None}
use Rattle.sat_formula.specs.Formula.{Satisfies}
use Rattle.tla_values.specs.Order.{Layer}
use Rattle.tla_values.specs.declared.value.Value.{Value, out-Value}
use Rattle.tla_values.specs.declared.value.Value.TheOpen as layer
use Rattle.tla_meaning.specs.declared.job.State.{State}
use Rattle.tla_meaning.specs.Scopes.{Scope}
use Rattle.cell_arena.specs.declared.build.Build.{Build}
use Rattle.kernel_trees.specs.declared.kernel.Ker.{Ker}
use Rattle.kernel_trees.specs.declared.kernel.Ker.TheOpen.{Ker-F}
use Rattle.kernel_trees.specs.declared.kernel.Ker.TheFolds.{fold-Ker}
use Rattle.kernel_trees.specs.declared.kernel.KerOp.{KerOp}
use Rattle.kernel_trees.specs.declared.kernel.KerOp.TheVariants as ker
use Rattle.kernel_trees.specs.Sound.{Context, kind_at, sound}
use Rattle.kernel_trees.specs.Trees.{ker_val}
use Rattle.kernel_trees.specs.TypeKinds.{Kind, kind_of}
use Rattle.kernel_ranges.specs.Ranges.{is_within}
use Rattle.outcome_cells.specs.declared.cells.Cells.{Cells}
use Rattle.outcome_cells.specs.Shows.{AreCells, Shows}
use Rattle.typed_cells.specs.KindSorts.{names_within, sort_of}
use Rattle.typed_cells.specs.Known.{IsTextAmong}
use Rattle.expr_rewriter.specs.declared.cell_env.CellEnv.{CellEnv}
use Rattle.expr_rewriter.specs.Environments.{Fits, HoldsEnv}

-- ---- texts

abbrev pub constant_texts : Layer Value → List (List ℕ)
constant_texts (layer.Text x) = x ∷ []
constant_texts v = []

abbrev pub own_texts : KerOp → List (List ℕ)
own_texts (ker.Const v) = constant_texts (out-Value v)
own_texts o = []

abbrev pub type_texts : Option Kind → List (List ℕ)
type_texts None = []
type_texts (Some a) = names_within a

abbrev pub node_texts : Ker-F (List (List ℕ)) → List (List ℕ)
node_texts x = own_texts x.op ++ (type_texts (kind_of x.ty) ++ flat_map (λ xs. xs) x.args)

-- the text constants of a tree, and the field names of the records in its types
unfoldable pub texts_in : Ker → List (List ℕ)
texts_in = fold-Ker (List (List ℕ)) node_texts

-- ---- the call

-- a sound tree, cells for what it reads, and texts that are the build's, the empty one among them
pub record CanRewrite (b : Build) (k : Ker) (env : CellEnv) : Type 0 where
  pub names : List Kind
  pub context : Context
  pub sound : IsTrue (sound names k context false)
  pub holds : HoldsEnv b.arena.kinds names context k env
  pub texts : All (IsTextAmong b.arena.texts) ([] ∷ texts_in k)

-- under each satisfying assignment, in every scope and at every two states in which names have the values of their
-- cells, the cells show what the tree gives, where each range that is evaluated lies within its bounds
pub record Rewrites (b : Build) (k : Ker) (env : CellEnv) (x : Cells) : Type 0 where
  pub shows : (a : List Bool) → Satisfies a b.formula → (sc : Scope) (s t : State) → Fits b.arena a env sc s t →
      IsTrue (is_within (Some b.arena.width) k sc s t) → Shows b.arena a x (ker_val (Some b.arena.width) k sc s t)

-- the cells have the sort of the tree's type, also where there is a fault
abbrev pub HasTreeSort : Build → Ker → Cells → Type 0
HasTreeSort b k x = (a : Kind) → kind_at k ≡ Some a → AreCells b (sort_of a) x
