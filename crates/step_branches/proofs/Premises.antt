-- What the encoder knows where it takes paths.
use Rattle.std.proofs.Common.{◌≡◌, ◌≤◌, Bool, true, List, map, take}
use Rattle.sat_formula.specs.Formula.{Satisfies, WellFormed}
use Rattle.tla_meaning.specs.declared.job.Job.{Job}
use Rattle.tla_meaning.specs.declared.job.State.{State}
use Rattle.tla_meaning.specs.Executions.{constants}
use Rattle.cell_arena.specs.declared.build.Build.{Build}
use Rattle.cell_arena.specs.declared.kinds.CellId.{CellId}
use Rattle.cell_arena.specs.Growth.{Grows}
use Rattle.kernel_trees.specs.declared.system.System.{System}
use Rattle.kernel_shapes.specs.declared.bounds.Shape.{Shape as Code}
use Rattle.kernel_shapes.specs.Codes.{mean}
use Rattle.kernel_shapes.specs.Laws.{FitsTyped}
use Rattle.kernel_shapes.specs.Levels.{constant_shapes}
use Rattle.kernel_shapes.specs.Shape.{Shape}
use Rattle.kernel_shapes.specs.Systems.{system_parts}
use Rattle.shape_bounds.specs.Kept.{capped}
use Rattle.branch_cells.specs.declared.branch.BranchCells.{BranchCells}
use Rattle.branch_cells.specs.declared.way.Way.{Way}
use Rattle.branch_cells.specs.Along.{CanGoAlong, IsAlong}
use Rattle.branch_cells.specs.Branches.{IsWhole}
use Rattle.level_laws.specs.Branches.{Held}
use Rattle.level_laws.specs.Constraints.{Allowed, Assignment, Reads, of_formula}
use Rattle.step_laws.specs.Encodable.{CanEncode}
use Rattle.step_laws.specs.PathEnds.{SomeEnds}
use Rattle.step_laws.specs.Systems.{StandsFor, steps_of}
use Rattle.step_laws.specs.Transitions.{HasConstants}
use Rattle.step_branches.specs.Branches.{width_of}
use Rattle.step_branches.specs.Readings.{state_at, values_at}
use Rattle.step_branches.specs.Ways.{IsConstantsWay, IsStartWay, IsStepWay}

-- ---- what is asked

-- Paths of Next, from the cells of a level. `formed` is what sat_formula's `Formula::vars` says; `follow` is what
-- `along`
-- asks, `along`, `whole` and `grows` are its answer; `fits` is what `run_fits` gives where the run's literal is true.
pub record GoesFromLevel (job : Job) (s : System) (old new : Build) (on : Assignment → Bool) (cells : List CellId)
    (codes : List Code) (way : Way) (r : BranchCells) : Type 0 where
  pub wide : 2 ≤ old.arena.width
  pub formed : WellFormed old.formula
  pub can : CanEncode s
  pub stands : StandsFor (width_of old) job s
  pub begins : IsStepWay s old.arena.width cells codes way
  pub follow : CanGoAlong old can.names way s.next
  pub along : IsAlong old new way s.next r
  pub whole : IsWhole new can.names r
  pub grows : Grows old new
  pub reads : Reads old.formula.vars on
  pub shapes : List Shape
  pub kept : map mean codes ≡ map capped shapes
  pub fits : (a : Assignment) → Satisfies a old.formula → on a ≡ true →
      FitsTyped can.names shapes (state_at old.arena cells a)

-- Paths of Init, behind the constants. `held`: where the literal is true a path of CInit holds at each state with them.
pub record GoesFromConstants (job : Job) (s : System) (old new : Build) (on : Assignment → Bool) (cells : List CellId)
    (codes : List Code) (way : Way) (r : BranchCells) : Type 0 where
  pub wide : 2 ≤ old.arena.width
  pub formed : WellFormed old.formula
  pub can : CanEncode s
  pub stands : StandsFor (width_of old) job s
  pub begins : IsStartWay s old.arena.width cells codes way
  pub follow : CanGoAlong old can.names way s.start
  pub along : IsAlong old new way s.start r
  pub whole : IsWhole new can.names r
  pub grows : Grows old new
  pub reads : Reads old.formula.vars on
  pub kept : map mean codes ≡ map capped (constant_shapes (system_parts old.arena.width s))
  pub held : (a : Assignment) → Satisfies a old.formula → on a ≡ true → (t : State) →
      HasConstants job (take (constants job) (values_at old.arena cells a)) t →
      SomeEnds (width_of old) (steps_of s.constants) Held t t

-- Paths of CInit, from nothing.
pub record GoesFromNothing (job : Job) (s : System) (old new : Build) (cells : List CellId) (way : Way)
    (r : BranchCells) : Type 0 where
  pub wide : 2 ≤ old.arena.width
  pub formed : WellFormed old.formula
  pub can : CanEncode s
  pub stands : StandsFor (width_of old) job s
  pub begins : IsConstantsWay s old.arena.width cells way
  pub follow : CanGoAlong old can.names way s.constants
  pub along : IsAlong old new way s.constants r
  pub whole : IsWhole new can.names r
  pub grows : Grows old new
  pub some : Allowed (of_formula old.formula) (λ a. Unit {0})
