-- What is asked of one step of a path, and what is made of it.
use Rattle.std.specs.Prelude.{◌≡◌, ◌<◌, ℕ, Bool, true, false, not, ◌&&◌, IsTrue, List, [], ◌∷◌}
use Rattle.std.specs.Prelude.{All, length, map, nat_eq, Some}
use Rattle.std.specs.List.{list_any}
use Rattle.sat_formula.specs.declared.lit.Lit.{Lit}
use Rattle.sat_formula.specs.Formula.{Satisfies}
use Rattle.sat_formula.specs.Lit.{IsBelow}
use Rattle.tla_values.specs.Sets.{elements}
use Rattle.tla_values.specs.declared.value.Value.{Value}
use Rattle.cell_arena.specs.declared.build.Build.{Build}
use Rattle.cell_arena.specs.declared.kinds.CellId.{CellId}
use Rattle.cell_arena.specs.declared.kinds.CellKind.{CellKind}
use Rattle.cell_arena.specs.Decode.{decode}
use Rattle.cell_merge.specs.Sorts.{OfSort, Sort, set_of}
use Rattle.kernel_trees.specs.declared.kernel.Ker.{Ker}
use Rattle.kernel_trees.specs.declared.path.AssignedStep.{AssignedStep}
use Rattle.kernel_trees.specs.declared.path.AssignedStep.TheVariants as mark
use Rattle.kernel_trees.specs.Paths.{sets}
use Rattle.kernel_trees.specs.Picks.{AreIn}
use Rattle.kernel_trees.specs.Sound.{is_finite, kind_at, picked_kinds}
use Rattle.kernel_trees.specs.TypeKinds.{Kind, Set, Truth}
use Rattle.outcome_cells.specs.declared.cells.Cells.{Cells}
use Rattle.outcome_cells.specs.declared.cells.Faults.{Faults}
use Rattle.outcome_cells.specs.Shows.{FaultsBelow}
use Rattle.typed_cells.specs.KindSorts.{OfSorts, sort_of}
use Rattle.expr_rewriter.specs.declared.cell_env.CellEnv.{CellEnv}
use Rattle.expr_rewriter.specs.Environments.{AreThere}
use Rattle.expr_rewriter.specs.Forming.{CanRewriteForm}
use Rattle.expr_rewriter.specs.Rewriting.{CanRewrite}
use Rattle.expr_rewriter.specs.inner.Parts.{CanRewriteAll}
use Rattle.path_walks.specs.declared.answer.PathCells.{PathCells}
use Rattle.path_walks.specs.declared.answer.StepCells.{StepCells}
use Rattle.path_walks.specs.Paths.{GoesOn}
use Rattle.path_walks.specs.inner.Walks.{IsStep, OneEach, all_true}

-- ---- literals

abbrev pub negation : Lit → Lit
negation l = record { var = l.var; neg = not l.neg }

-- the negation of `top`
abbrev pub is_never : Lit → Bool
is_never l = nat_eq l.var 0 && l.neg

abbrev pub the_bottom : Lit
the_bottom = record { var = 0; neg = true }

pub record LiteralsBelow (n : ℕ) (x : PathCells) : Type 0 where
  pub holds : x.holds.var < n
  pub wrong : x.wrong.var < n
  pub big : x.big.var < n

pub record StepBelow (n : ℕ) (m : StepCells) : Type 0 where
  pub faults : FaultsBelow n m.faults
  pub choices : All (IsBelow n) m.choices

-- where they are all true the steps so far and this one hold
abbrev pub all_literals : Lit → StepCells → List Lit
all_literals l m = l ∷ negation m.faults.wrong ∷ negation m.faults.big ∷ m.choices

-- ---- free choices of members of sets

abbrev pub cells_of : List Cells → List CellId
cells_of xs = map (λ x. x.cell) xs

-- under no assignment each of the sets has a member
abbrev pub HasNoChoice : Build → List CellId → Type 0
HasNoChoice b xs =
    (a : List Bool) (vs : List Value) → AreIn vs (map (λ x. elements (decode b.arena a x)) xs) → ⊥

-- where the literals are all true each cell has a member of its set as its value, and under some longer assignment they
-- have any members
pub record PicksEach (old new : Build) (xs : List CellId) (ids : List CellId) (ls : List Lit) : Type 0 where
  pub below : All (IsBelow new.formula.vars) ls
  pub there : All (λ id. id.index < length new.arena.kinds) ids
  pub count : length ids ≡ length xs
  pub sorts : (ss : List Sort) → OfSorts old.arena.kinds (map set_of ss) xs → OfSorts new.arena.kinds ss ids
  pub sound : (a : List Bool) → Satisfies a new.formula → all_true ls a ≡ true →
      AreIn (map (decode new.arena a) ids) (map (λ x. elements (decode old.arena a x)) xs)
  pub each : (a : List Bool) → length a ≡ old.formula.vars → Satisfies a old.formula → (vs : List Value) →
      AreIn vs (map (λ x. elements (decode old.arena a x)) xs) →
      GoesOn new.formula a (λ b. (all_true ls b ≡ true) × (map (decode new.arena b) ids ≡ vs))

-- ---- what is asked

pub record CanGuard (b : Build) (k : Ker) (env : CellEnv) : Type 0 where
  pub can : CanRewrite b k env
  pub kind : kind_at k ≡ Some Truth

pub record CanPick (b : Build) (ps : List (ℕ × Ker)) (env : CellEnv) : Type 0 where
  pub there : AreThere (length b.arena.kinds) env
  pub can : CanRewriteAll b env (sets ps)
  pub members : List Kind
  pub are : picked_kinds ps ≡ Some members

pub record CanTakeMember (b : Build) (e : Ker) (env : CellEnv) : Type 0 where
  pub can : CanRewriteForm b e env
  pub member : Kind
  pub is : kind_at e ≡ Some (Set member)
  pub finite : IsTrue (is_finite e)

-- ---- what is made

-- the cells have the sorts of the members of the sets, of the value, or of the form's members
abbrev pub CellSorts : List CellKind → AssignedStep → List CellId → Type 0
CellSorts ks (mark.Guard k b) ids = Unit {0}
CellSorts ks (mark.Pick ps) ids = (ms : List Kind) → picked_kinds ps ≡ Some ms → OfSorts ks (map sort_of ms) ids
CellSorts ks (mark.Equals i e) ids = (a : Kind) → kind_at e ≡ Some a → All (OfSort ks (sort_of a)) ids
CellSorts ks (mark.Among i e) ids = (a : Kind) → kind_at e ≡ Some (Set a) → All (OfSort ks (sort_of a)) ids

-- a step with these faults that never holds
abbrev pub no_choice : Faults → StepCells
no_choice f = record { faults = f; choices = the_bottom ∷ []; cells = [] }

-- it has its cells, unless it never holds
pub record GivesUnlessNever (ks : List CellKind) (z : AssignedStep) (m : StepCells) : Type 0 where
  pub one : list_any is_never m.choices ≡ false → OneEach z m.cells
  pub sorts : list_any is_never m.choices ≡ false → CellSorts ks z m.cells

pub record IsStepCells (g h : Build) (env : CellEnv) (z : AssignedStep) (m : StepCells) : Type 0 where
  pub step : IsStep (Some g.arena.width) g h env z m
  pub gives : GivesUnlessNever h.arena.kinds z m
