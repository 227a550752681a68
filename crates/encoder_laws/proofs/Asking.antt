-- What the questions of a level say.
use Rattle.std.proofs.Common.{◌≡◌, ℕ, zero, suc, ◌+◌, List, [], ◌∷◌, reverse, take, length, Some, ◌∙◌, ap, arith}
use Rattle.std.specs.Prelude.{slice_get}
use Rattle.tla_meaning.specs.declared.job.Job.{Job}
use Rattle.tla_meaning.specs.declared.job.State.{State}
use Rattle.tla_meaning.specs.declared.questions.Query.{Query}
use Rattle.tla_meaning.specs.declared.questions.Query.TheVariants.{StepWrong, StepBig, InvNotTrue, InvBig, AssumeBig}
use Rattle.tla_meaning.specs.Executions.{IsExecution}
use Rattle.tla_meaning.specs.Numbers.{Width}
use Rattle.cell_arena.specs.declared.build.Build.{Build}
use Rattle.cell_arena.specs.Cells.{Cells as Arena}
use Rattle.kernel_trees.specs.declared.system.System.{System}
use Rattle.level_laws.specs.Constraints.{Allowed, Assignment, of_formula}
use Rattle.step_laws.specs.Encoded.{asked_states}
use Rattle.step_laws.specs.Origins.{IsExecutionFrom, the_start}
use Rattle.step_laws.proofs.Encoded.{encoded_asks}
use Rattle.step_laws.proofs.Executing.{stands_for_all}
use Rattle.step_laws.proofs.Questions.{IsOfLevels}
use Rattle.step_branches.specs.Readings.{state_at}
use Rattle.encoder_laws.specs.declared.level.LevelCells.{LevelCells}
use Rattle.encoder_laws.specs.Levels.{AsksOf, kept_at, start_along, states_asked, step_along}
use Rattle.encoder_laws.proofs.Cells.{past_at}
use Rattle.encoder_laws.proofs.Growing.{AreLevels}
use Rattle.encoder_laws.proofs.Places.{one_before, reverse_last, take_more}

from_execution : (w : Width) (job : Job) (xs : List State) → IsExecution w job xs →
    IsExecutionFrom w job (the_start w job) xs
from_execution w job [] e = e
from_execution w job (s ∷ ss) e = ((e.0, e.1), e.2)

-- what is read of a level's states, the oldest first: those of the level before it, and its own
pub asked_before : (c : Arena) (levels : List LevelCells) (n : ℕ) (x : LevelCells) → slice_get levels n ≡ Some x →
    (a : Assignment) →
    past_at c (take (suc n) levels) a ≡ state_at c x.cells a ∷ past_at c (take n levels) a
asked_before c levels n x e a =
    ap (λ (ls : List LevelCells). past_at c ls a) (take_more levels n x e)
    ∙ reverse_last (λ y. state_at c y.cells a) (take n levels) x

module _ (w : Width) (job : Job) (s : System) (b : Build) (levels : List LevelCells)
    (all : AreLevels w job s b levels) where
  -- each execution of n steps is stood for
  stands : (n : ℕ) (x : LevelCells) → slice_get levels n ≡ Some x → (states : List State) → IsExecution w job states →
      length states ≡ n + 1 →
      Allowed (of_formula b.formula)
      (λ a. reverse (state_at b.arena x.cells a ∷ past_at b.arena (take n levels) a) ≡ states)
  stands n x e states ex many =
      let l = all n x e in
      stands_for_all w job (the_start w job) (start_along w job s) (step_along w job s)
      (λ t h. (l.starts.law t h.0).yes h.1) n l.steps (of_formula b.formula)
      (kept_at b.arena levels n x).run l.encoded.level states (from_execution w job states ex) many

  -- those of which a question of the step speaks: of the level before
  step_stands : (n : ℕ) (x : LevelCells) → slice_get levels n ≡ Some x → (states : List State) →
      IsExecution w job states → length states ≡ n →
      Allowed (of_formula b.formula) (λ a. reverse (past_at b.arena (take n levels) a) ≡ states)
  step_stands n x e [] ex many = absurd ex
  step_stands zero x e (t ∷ ts) ex many = absurd (none (length ts) many)
    where
      none : (m : ℕ) → suc m ≡ 0 → ⊥
      none m q = omega (arith, q)
  step_stands (suc n) x e (t ∷ ts) ex many =
      let z = one_before levels n x e in
      let u = stands n z.0 z.1 (t ∷ ts) ex (more (length ts) many) in
      record { at = u.at; satisfies = u.satisfies; so = ap reverse (asked_before b.arena levels n z.0 z.1 u.at) ∙ u.so }
    where
      more : (m : ℕ) → suc m ≡ suc n → suc m ≡ n + 1
      more m q = omega (arith, q)

  executions : (n : ℕ) (x : LevelCells) → slice_get levels n ≡ Some x → (q : Query) → IsOfLevels q →
      (states : List State) → IsExecution w job states → length states ≡ states_asked q n →
      Allowed (of_formula b.formula) (λ a. asked_states q (kept_at b.arena levels n x) a ≡ states)
  executions n x e StepWrong o states ex many = step_stands n x e states ex many
  executions n x e StepBig o states ex many = step_stands n x e states ex many
  executions n x e InvNotTrue o states ex many = stands n x e states ex many
  executions n x e InvBig o states ex many = stands n x e states ex many
  executions n x e AssumeBig o states ex many = absurd o

  -- a level's question is asked by its literal
  pub level_asks : (n : ℕ) (x : LevelCells) → slice_get levels n ≡ Some x → (q : Query) → IsOfLevels q →
      AsksOf w job b.formula n q (kept_at b.arena levels n x)
  level_asks n x e q o =
      let l = all n x e in
      record {
        asks =
            encoded_asks w job (start_along w job s) (step_along w job s) (the_start w job) l.starts
            (of_formula b.formula) (kept_at b.arena levels n x) n q o l.steps
            l.encoded;
        executions = executions n x e q o;
      }
