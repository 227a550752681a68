-- What an encoder holds. Source: Konnov, Kukovec and Tran, "TLA+ Model Checking Made Symbolic", OOPSLA 2019, on bounded
-- model checking.
use Rattle.std.specs.Prelude.{◌≡◌, ◌≤◌, ◌<◌, ◌+◌, ℕ, List, [], ◌∷◌, ◌++◌, map, length, Some, slice_get}
use Rattle.sat_formula.specs.declared.lit.Lit.{Lit}
use Rattle.tla_meaning.specs.declared.job.Job.{Job}
use Rattle.tla_meaning.specs.declared.questions.Query.{Query}
use Rattle.tla_meaning.specs.declared.questions.Query.TheVariants.{StepWrong, StepBig, InvNotTrue, InvBig, AssumeBig}
use Rattle.kernel_shapes.specs.Codes.{mean}
use Rattle.kernel_shapes.specs.Levels.{shapes_at, start_shapes}
use Rattle.kernel_shapes.specs.Systems.{system_parts}
use Rattle.kernel_trees.specs.Systems.{kinds_of_names}
use Rattle.kernel_trees.specs.TypeKinds.{Kind}
use Rattle.shape_bounds.specs.Kept.{capped}
use Rattle.system_texts.specs.SystemTexts.{HasSystemTexts}
use Rattle.branch_cells.specs.Branches.{AreOfKinds}
use Rattle.level_laws.specs.Constraints.{Allowed, of_formula}
use Rattle.step_laws.specs.Encodable.{CanEncode}
use Rattle.step_laws.specs.Encoded.{Kept}
use Rattle.step_laws.specs.Systems.{StandsFor}
use Rattle.step_encoder.specs.declared.encoder.Encoder.{Encoder}
use Rattle.encoder_laws.specs.declared.level.LevelCells.{LevelCells}
use Rattle.encoder_laws.specs.Levels.{AsksOf, IsLevelOf, kept_at}

abbrev pub width_of : Encoder → ℕ
width_of e = e.build.arena.width

-- what is read of a level
abbrev pub kept : Encoder → ℕ → LevelCells → Kept
kept e n x = kept_at e.build.arena e.levels n x

-- for each job for which the system stands
abbrev pub IsLevel : Encoder → ℕ → LevelCells → Type 0
IsLevel e n x =
    (job : Job) → StandsFor (Some (width_of e)) job e.system.now →
    IsLevelOf (Some (width_of e)) job e.system.now e.build.formula n (kept e n x)

-- one cell for each name, of its kind
abbrev pub HasCells : Encoder → LevelCells → Type 0
HasCells e x = (names : List Kind) → kinds_of_names e.system.now.ker ≡ Some names →
    AreOfKinds e.build.arena.kinds names x.cells

-- the shapes of the newest level are kept
abbrev pub HasShapes : Encoder → Type 0
HasShapes e = (n : ℕ) → length e.levels ≡ n + 1 →
    let p = system_parts (width_of e) e.system.now in
    map mean e.shapes ≡ map capped (shapes_at p (start_shapes p) n)

-- some assignment satisfies the formula, the texts of the system are the build's, and each level has its cells and a
-- run
-- literal of the formula, and says what it is to say
pub record IsEncoder (e : Encoder) : Type 0 where
  pub system : CanEncode e.system.now
  pub narrow : 4 ≤ width_of e
  pub wide : width_of e ≤ 64
  pub texts : HasSystemTexts e.build.arena.texts e.system.now
  pub satisfiable : Allowed (of_formula e.build.formula) (λ a. Unit {0})
  pub shapes : HasShapes e
  pub cells : (n : ℕ) (x : LevelCells) → slice_get e.levels n ≡ Some x → HasCells e x
  pub runs : (n : ℕ) (x : LevelCells) → slice_get e.levels n ≡ Some x → x.run.var < e.build.formula.vars
  pub levels : (n : ℕ) (x : LevelCells) → slice_get e.levels n ≡ Some x → IsLevel e n x

-- ---- questions

abbrev pub literal_of : LevelCells → Query → Lit
literal_of x StepWrong = x.step_wrong
literal_of x StepBig = x.step_big
literal_of x InvNotTrue = x.not_true
literal_of x InvBig = x.inv_big
literal_of x AssumeBig = x.step_big

abbrev pub IsOfLevels : Query → Type 0
IsOfLevels StepWrong = Unit {0}
IsOfLevels StepBig = Unit {0}
IsOfLevels InvNotTrue = Unit {0}
IsOfLevels InvBig = Unit {0}
IsOfLevels AssumeBig = ⊥

-- of each job for which the system stands the literal asks the question of the level
abbrev pub AsksAt : Encoder → ℕ → LevelCells → Query → Type 0
AsksAt e n x q =
    (job : Job) → StandsFor (Some (width_of e)) job e.system.now →
    AsksOf (Some (width_of e)) job e.build.formula n q (kept e n x)

-- ---- one level more

pub record AddsLevel (old new : Encoder) : Type 0 where
  pub level : LevelCells
  pub levels : new.levels ≡ old.levels ++ level ∷ []
  pub system : new.system.now ≡ old.system.now
  pub width : width_of new ≡ width_of old
  pub encodes : IsEncoder new
