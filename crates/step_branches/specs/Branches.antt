-- What the paths of an action over cells say of a job: they are a branch, and trees have their types along them.
-- Source:
-- Konnov, Kukovec and Tran, "TLA+ Model Checking Made Symbolic", OOPSLA 2019, on symbolic transitions.
use Rattle.std.specs.Prelude.{◌≡◌, Bool, true, List, take, length, Some}
use Rattle.sat_formula.specs.Formula.{Satisfies}
use Rattle.tla_meaning.specs.declared.job.Job.{Job}
use Rattle.tla_meaning.specs.declared.job.State.{State}
use Rattle.tla_meaning.specs.Executions.{IsState, constants, in_cinit, in_init}
use Rattle.tla_meaning.specs.Numbers.{Width}
use Rattle.cell_arena.specs.declared.build.Build.{Build}
use Rattle.cell_arena.specs.declared.kinds.CellId.{CellId}
use Rattle.kernel_trees.specs.Paths.{marks_below}
use Rattle.kernel_trees.specs.declared.system.System.{System}
use Rattle.kernel_trees.proofs.Marking.{cinit_reads, init_reads}
use Rattle.level_laws.specs.Branches.{Branch}
use Rattle.level_laws.specs.Constraints.{Assignment, of_formula, under}
use Rattle.step_laws.specs.Laws.{IsNext}
use Rattle.step_laws.specs.Systems.{steps_of}
use Rattle.step_laws.specs.Transitions.{ConstantsGo, HasConstants, InitGoes, StepGoes}
use Rattle.step_laws.proofs.Steps.{HaveKinds, KindsBetween}
use Rattle.branch_cells.specs.declared.branch.BranchCells.{BranchCells}
use Rattle.branch_cells.specs.Ends.{ends_at}
use Rattle.step_branches.specs.Readings.{reading, state_at, values_at}

abbrev pub width_of : Build → Width
width_of b = Some b.arena.width

-- behind a level, where its run literal is true
pub record AreSteps (job : Job) (s : System) (old new : Build) (on : Assignment → Bool) (cells : List CellId)
    (r : BranchCells) : Type 0 where
  pub branch : Branch (under (of_formula old.formula) on) (under (of_formula new.formula) on) (state_at old.arena cells)
      (StepGoes (width_of old) job (steps_of s.next)) (reading new.arena r)
  pub kinds : (a : Assignment) → Satisfies a old.formula → on a ≡ true → (t : State) →
      IsNext job (state_at old.arena cells a) t →
      KindsBetween (width_of old) job (steps_of s.next) (state_at old.arena cells a) t

-- behind CInit and the assumption, where these hold: from the constants to states
pub record AreStarts (job : Job) (s : System) (old new : Build) (on : Assignment → Bool) (cells : List CellId)
    (r : BranchCells) : Type 0 where
  pub branch : Branch (under (of_formula old.formula) on) (under (of_formula new.formula) on)
      (λ a. take (constants job) (values_at old.arena cells a)) (InitGoes (width_of old) job (steps_of s.start))
      (reading new.arena r)
  pub kinds : (a : Assignment) → Satisfies a old.formula → on a ≡ true → (t : State) →
      (h : HasConstants job (take (constants job) (values_at old.arena cells a)) t) →
      HaveKinds (width_of old) (marks_below (length job.names) (in_init job)) t t (init_reads job t h.0)
      (steps_of s.start)

-- from nothing to the constants
pub record AreConstants (job : Job) (s : System) (old new : Build) (r : BranchCells) : Type 0 where
  pub branch : Branch (of_formula old.formula) (of_formula new.formula) (λ a. tt)
      (ConstantsGo (width_of old) job (steps_of s.constants))
      (record { ends = ends_at r.ends; next = λ a. take (constants job) (values_at new.arena r.next a) })
  pub kinds : (t : State) → (h : IsState job t) →
      HaveKinds (width_of old) (marks_below (length job.names) (in_cinit job)) t t (cinit_reads job t h)
      (steps_of s.constants)
