-- Trees that are taken as a whole, as ends: the assumption, and the invariants of a level.
use Rattle.std.specs.Prelude.{◌≡◌, ℕ, Bool, false, ◌&&◌, IsTrue, List, [], ◌∷◌, map, filter, length}
use Rattle.std.specs.Prelude.{Some, unwrap_or}
use Rattle.sat_formula.specs.declared.cnf.Cnf.{Cnf}
use Rattle.sat_formula.specs.declared.lit.Lit.{Lit}
use Rattle.sat_formula.specs.Formula.{Satisfies, HasValue}
use Rattle.sat_formula.specs.Lit.{lit_value}
use Rattle.tla_meaning.specs.declared.job.State.{State}
use Rattle.tla_meaning.specs.Executions.{no_scope}
use Rattle.cell_arena.specs.declared.build.Build.{Build}
use Rattle.cell_arena.specs.declared.kinds.CellId.{CellId}
use Rattle.kernel_trees.specs.declared.kernel.Ker.{Ker}
use Rattle.kernel_trees.specs.declared.system.System.{System}
use Rattle.kernel_trees.specs.Sound.{kind_at, sound}
use Rattle.kernel_trees.specs.Systems.{kinds_of_names}
use Rattle.kernel_trees.specs.Trees.{ker_val}
use Rattle.kernel_trees.specs.TypeKinds.{Kind, Truth}
use Rattle.kernel_shapes.specs.declared.bounds.Shape.{Shape as Code}
use Rattle.kernel_shapes.specs.Codes.{mean}
use Rattle.kernel_shapes.specs.Laws.{Ready}
use Rattle.kernel_shapes.specs.Shape.{Shape}
use Rattle.kernel_shapes.specs.Sized.{Extent}
use Rattle.tree_bounds.specs.Laws.{Covers}
use Rattle.shape_bounds.specs.Extents.{extent_of, kept_extent}
use Rattle.shape_bounds.specs.Kept.{capped}
use Rattle.system_texts.specs.SystemTexts.{HasSystemTexts, HasTreeTexts}
use Rattle.expr_rewriter.specs.declared.cell_env.CellEnv.{CellEnv}
use Rattle.expr_rewriter.specs.Environments.{AreThere, Fits, HoldsEnv}
use Rattle.branch_cells.specs.declared.branch.BranchCells.{BranchCells}
use Rattle.branch_cells.specs.declared.branch.Ends.{Ends}
use Rattle.branch_cells.specs.Branches.{AreOfKinds}
use Rattle.branch_cells.specs.Ends.{AreEndsOf, AreJudged, EndsBelow}
use Rattle.step_laws.specs.Encodable.{CanEncode}
use Rattle.encoder_laws.specs.declared.level.LevelCells.{LevelCells}
use Rattle.encoder_laws.specs.Levels.{IsTruthOutcome}

-- the kinds of the names of a system
unfoldable pub names_of : System → List Kind
names_of s = unwrap_or (kinds_of_names s.ker) []

-- how many names are constants
abbrev pub count : List Bool → ℕ
count bs = length (filter (λ (b : Bool). b) bs)

-- the codes are those of some shapes
pub record AreKept (codes : List Code) : Type 0 where
  pub shapes : List Shape
  pub kept : map mean codes ≡ map capped shapes

-- the system can be encoded over the build, whose texts are its own
pub record IsOver (b : Build) (s : System) : Type 0 where
  pub known : CanEncode s
  pub texts : HasSystemTexts b.arena.texts s

-- ---- one tree

-- a sound truth value, cells for what it reads, shapes, and texts that are the build's
pub record CanAsk (b : Build) (env : CellEnv) (now next : List Code) (k : Ker) : Type 0 where
  pub names : List Kind
  pub extent : Extent
  pub kept : kept_extent extent ≡ extent_of now next []
  pub sound : IsTrue (sound names k [] false)
  pub truth : kind_at k ≡ Some Truth
  pub holds : HoldsEnv b.arena.kinds names [] k env
  pub texts : HasTreeTexts b.arena.texts k

-- a satisfying assignment and two states that have the values of the cells and fit the shapes, over which the tree is
-- sound
pub record IsAt (b : Build) (env : CellEnv) (now next : List Code) (k : Ker) (a : List Bool)
    (s t : State) : Type 0 where
  pub satisfies : Satisfies a b.formula
  pub extent : Extent
  pub kept : kept_extent extent ≡ extent_of now next []
  pub names : List Kind
  pub sound : IsTrue (sound names k [] false)
  pub covers : Covers names [] k extent
  pub fits : Fits b.arena a env no_scope s t
  pub ready : Ready no_scope extent s t

-- there the ends are those of what the tree gives, which is no value but a truth value
pub record IsConditionOf (b : Build) (env : CellEnv) (now next : List Code) (k : Ker) (x : Ends) : Type 0 where
  pub there : AreThere (length b.arena.kinds) env
  pub below : EndsBelow b.formula.vars x
  pub says : (a : List Bool) (s t : State) → IsAt b env now next k a s t →
      AreEndsOf a x (ker_val (Some b.arena.width) k no_scope s t)
  pub truth : (a : List Bool) (s t : State) → IsAt b env now next k a s t →
      IsTruthOutcome (ker_val (Some b.arena.width) k no_scope s t)

-- ---- the trees of a state

-- each name has its cell, in the state and in the next one, which is the same
abbrev pub state_env : List CellId → CellEnv
state_env ids = record { now = ids; next = map (λ id. Some id) ids; bound = [] }

-- of several trees
abbrev pub AreConditionsOf : Build → CellEnv → List Code → List Ker → List Ends → Type 0
AreConditionsOf b env codes [] [] = Unit {0}
AreConditionsOf b env codes [] (x ∷ xs) = ⊥
AreConditionsOf b env codes (k ∷ ks) [] = ⊥
AreConditionsOf b env codes (k ∷ ks) (x ∷ xs) = IsConditionOf b env codes codes k x × AreConditionsOf b env codes ks xs

-- one cell for each name of a system that is encoded, of its kind, and shapes
pub record CanJudge (b : Build) (s : System) (codes : List Code) (cells : List CellId) : Type 0 where
  pub over : IsOver b s
  pub kinds : AreOfKinds b.arena.kinds (names_of s) cells
  pub shapes : AreKept codes

-- what is judged of outcomes, where the run literal is true
pub record AreJudgedWith (f : Cnf) (xs : List Ends) (run : Lit) (r : Lit × Lit) : Type 0 where
  pub judged : Lit × Lit
  pub judges : AreJudged f xs judged
  pub not_true : HasValue f r.0 (λ a. lit_value run a && lit_value judged.0 a)
  pub inv_big : HasValue f r.1 (λ a. lit_value run a && lit_value judged.1 a)

-- the literals of the invariants at a state, where the run literal is true
pub record AreAsked (b : Build) (s : System) (codes : List Code) (cells : List CellId) (run : Lit)
    (r : Lit × Lit) : Type 0 where
  pub conditions : List Ends
  pub are : AreConditionsOf b (state_env cells) codes s.ker.invs conditions
  pub literals : AreJudgedWith b.formula conditions run r

-- the level of a branch that leads to it
pub record IsJudgedLevel (b : Build) (s : System) (codes : List Code) (whole : BranchCells)
    (x : LevelCells) : Type 0 where
  pub cells : x.cells ≡ whole.next
  pub run : x.run ≡ whole.ends.holds
  pub wrong : x.step_wrong ≡ whole.ends.wrong
  pub big : x.step_big ≡ whole.ends.big
  pub asked : AreAsked b s codes whole.next whole.ends.holds (x.not_true, x.inv_big)
