-- What the paths of a system over cells say of a job: the laws that the encoder stands on. What is asked stands in
-- Premises.
use Rattle.std.proofs.Common.{◌≡◌, ℕ, Bool, true, false, List, take, length, refl, sym, ◌∙◌, ap, subst}
use Rattle.sat_formula.specs.Formula.{Satisfies}
use Rattle.tla_values.specs.declared.value.Value.{Value}
use Rattle.tla_meaning.specs.declared.job.Job.{Job}
use Rattle.tla_meaning.specs.declared.job.State.{State}
use Rattle.tla_meaning.specs.Executions.{IsState, constants, in_cinit, in_init, in_next}
use Rattle.tla_meaning.specs.Numbers.{Width}
use Rattle.cell_arena.specs.declared.build.Build.{Build}
use Rattle.cell_arena.specs.declared.kinds.CellId.{CellId}
use Rattle.kernel_trees.specs.declared.path.Assigned.{Assigned}
use Rattle.kernel_trees.specs.declared.system.System.{System}
use Rattle.kernel_trees.specs.Assignments.{AssignedPath}
use Rattle.kernel_trees.specs.Paths.{marks_below, mentions}
use Rattle.kernel_trees.proofs.Marking.{cinit_reads, init_reads}
use Rattle.kernel_trees.proofs.Picking.{map_one, one_map}
use Rattle.kernel_shapes.specs.declared.bounds.Shape.{Shape as Code}
use Rattle.branch_cells.specs.declared.branch.BranchCells.{BranchCells}
use Rattle.branch_cells.specs.declared.way.Way.{Way}
use Rattle.level_laws.specs.Branches.{Branch, BranchReading, Ending, Transition}
use Rattle.level_laws.specs.Constraints.{Assignment, Constraint, under, of_formula}
use Rattle.level_laws.proofs.Branches.{branch_same}
use Rattle.step_laws.specs.Encodable.{CanEncode}
use Rattle.step_laws.specs.Laws.{IsNext}
use Rattle.step_laws.specs.PathEnds.{PathEnds, SomeEnds}
use Rattle.step_laws.specs.Systems.{StandsFor, steps_of}
use Rattle.step_laws.specs.Transitions.{ConstantsGo, HasConstants, InitGoes, StepGoes}
use Rattle.step_laws.proofs.Constants.{AllQuiet, variables}
use Rattle.step_branches.specs.Branches.{AreConstants, AreStarts, AreSteps, width_of}
use Rattle.step_branches.specs.Readings.{reading, state_at, values_at}
use Rattle.step_branches.proofs.AlongPaths.{StaysSo, along_branch, along_kinds, along_stays}
use Rattle.step_branches.proofs.Choosing.{SomeGoes, reading_of}
use Rattle.step_branches.proofs.PathLeads.{PathGoes}
use Rattle.step_branches.proofs.Premises.{GoesFromConstants, GoesFromLevel, GoesFromNothing}
use Rattle.step_branches.proofs.Quiet.{paths_quiet}
use Rattle.step_branches.proofs.Scenes.{constants_scene, start_free, start_scene, step_free, step_scene}
use Rattle.step_branches.proofs.SystemFacts.{assume_silent}

-- ---- one of the paths, in the words of a job

module _ {E S : Type 0} (Legal : E → State → Type 0) (current : E → State → State) (part : State → S) (w : Width)
    (xs : List Assigned) where
  abbrev Goes : Transition E S
  Goes = SomeGoes (PathGoes Legal current part w) xs

  -- to some next state that counts
  abbrev Ends : Transition E S
  Ends k e s = (t : State) × (Legal e t × (SomeEnds w (steps_of xs) k (current e t) t × (part t ≡ s)))

  goes_ends : (k : Ending) (e : E) (s : S) → Goes k e s → Ends k e s
  goes_ends k e s m =
      let z = m.1.1 in
      (z.0, (z.1.0, ((m.0.steps, (one_map (λ (x : Assigned). x.steps) m.0 xs m.1.0, z.1.1.0)), z.1.1.1)))

  ends_go : (k : Ending) (e : E) (s : S) → Ends k e s → Goes k e s
  ends_go k e s m =
      let y = m.1.1.0 in
      let x = map_one (λ (x : Assigned). x.steps) y.0 xs y.1.0 in (
        x.0,
        (
          x.1,
          (
            m.0,
            (
              m.1.0,
              (
                subst (λ (zs : AssignedPath). PathEnds w zs k (current e m.0) m.0) x.2 y.1.1,
                m.1.1.1,
              ),
            ),
          ),
        ),
      )

-- a branch that is known everywhere
everywhere : {E S : Type 0} (f g : Constraint) (now : Assignment → E) (P : Transition E S) (x : BranchReading S) →
    Branch (under f (λ a. true)) (under g (λ a. true)) now P x → Branch f g now P x
everywhere f g now P x b = record {
  grown = record {
    vars = b.grown.vars;
    stays = λ a s. (b.grown.stays a (s, refl)).0;
    extends = λ a s. let u = b.grown.extends a (s, refl) in
        record { to = u.to; agrees = u.agrees; satisfies = u.satisfies.0; so = tt };
  };
  ends_read = b.ends_read;
  next_reads = b.next_reads;
  sound = λ k a s e. b.sound k a (s, refl) e;
  reach = λ a t s p. let u = b.reach a t (s, refl) p in
      record { to = u.to; agrees = u.agrees; satisfies = u.satisfies.0; so = u.so };
  find = λ k a t s p. let u = b.find k a t (s, refl) p in
      record { to = u.to; agrees = u.agrees; satisfies = u.satisfies.0; so = u.so };
}

-- ---- from a level

module _ (job : Job) (s : System) (old new : Build) (on : Assignment → Bool) (cells : List CellId) (codes : List Code)
    (way : Way) (r : BranchCells)
    (h : GoesFromLevel job s old new on cells codes way r) where
  abbrev StepAlong : Transition State State
  StepAlong = Goes (IsNext job) (λ u t. u) (λ t. t) (width_of old) s.next

  step_to : (k : Ending) (u t : State) → StepAlong k u t → StepGoes (width_of old) job (steps_of s.next) k u t
  step_to k u t m =
      let z = goes_ends (IsNext job) (λ u t. u) (λ t. t) (width_of old) s.next k u t m in
      subst (λ (v : State). StepGoes (width_of old) job (steps_of s.next) k u v) z.1.1.1 (z.1.0, z.1.1.0)

  step_from : (k : Ending) (u t : State) → StepGoes (width_of old) job (steps_of s.next) k u t → StepAlong k u t
  step_from k u t m = ends_go (IsNext job) (λ u t. u) (λ t. t) (width_of old) s.next k u t (t, (m.0, (m.1, refl)))

  pub steps_are : AreSteps job s old new on cells r
  steps_are =
      let scene = step_scene job s old new on cells codes way r h in
      record {
        branch =
            branch_same (under (of_formula old.formula) on) (under (of_formula new.formula) on)
            (state_at old.arena cells) StepAlong
            (StepGoes (width_of old) job (steps_of s.next)) (reading new.arena r) step_to step_from
            (along_branch job old way s.next on (state_at old.arena cells) (IsNext job) (λ u t. u) (λ t. t) scene new
            r h.along h.formed h.grows h.whole.below);
        kinds = λ a sat o t l q.
            along_kinds job old way s.next on (state_at old.arena cells) (IsNext job) (λ u t. u) (λ t. t) scene new r
            h.along h.formed a sat o t l
            (marks_below (length job.names) (in_next job)) q;
      }

  -- the constants stay under every assignment, whatever the literal
  pub steps_over : (a : Assignment) → Satisfies a new.formula →
      IsNext job (state_at old.arena cells a) (state_at new.arena r.next a)
  steps_over a sat =
      let scene = step_scene job s old new on cells codes way r h in
      let z =
      subst (λ (n : ℕ). StaysSo job old new way.others r n a) (step_free job s old new on cells codes way r h)
      (along_stays job old way s.next on (state_at old.arena cells) (IsNext job) (λ u t. u) (λ t. t) scene new r
      h.along h.grows a) in
      (z.0, sym (z.1 ∙ ap (λ (ids : List CellId). take (constants job) (values_at old.arena ids a)) h.begins.is.others))

-- ---- from the constants

module _ (job : Job) (s : System) (old new : Build) (on : Assignment → Bool) (cells : List CellId) (codes : List Code)
    (way : Way) (r : BranchCells)
    (h : GoesFromConstants job s old new on cells codes way r) where
  abbrev constant_values : Assignment → List Value
  constant_values a = take (constants job) (values_at old.arena cells a)

  abbrev InitAlong : Transition (List Value) State
  InitAlong = Goes (HasConstants job) (λ cs t. t) (λ t. t) (width_of old) s.start

  init_to : (k : Ending) (cs : List Value) (t : State) → InitAlong k cs t →
      InitGoes (width_of old) job (steps_of s.start) k cs t
  init_to k cs t m =
      let z = goes_ends (HasConstants job) (λ cs t. t) (λ t. t) (width_of old) s.start k cs t m in
      subst (λ (v : State). InitGoes (width_of old) job (steps_of s.start) k cs v) z.1.1.1 (z.1.0, z.1.1.0)

  init_from : (k : Ending) (cs : List Value) (t : State) → InitGoes (width_of old) job (steps_of s.start) k cs t →
      InitAlong k cs t
  init_from k cs t m = ends_go (HasConstants job) (λ cs t. t) (λ t. t) (width_of old) s.start k cs t
      (t, (m.0, (m.1, refl)))

  pub starts_are : AreStarts job s old new on cells r
  starts_are =
      let scene = start_scene job s old new on cells codes way r h in
      record {
        branch =
            branch_same (under (of_formula old.formula) on) (under (of_formula new.formula) on) constant_values
            InitAlong
            (InitGoes (width_of old) job (steps_of s.start)) (reading new.arena r) init_to init_from
            (along_branch job old way s.start on constant_values (HasConstants job) (λ cs t. t) (λ t. t) scene new r
            h.along h.formed h.grows h.whole.below);
        kinds = λ a sat o t l.
            along_kinds job old way s.start on constant_values (HasConstants job) (λ cs t. t) (λ t. t) scene new r
            h.along h.formed a sat o t l
            (marks_below (length job.names) (in_init job)) (init_reads job t l.0);
      }

  -- the constants stay under every assignment, whatever the literal
  pub starts_over : (a : Assignment) → Satisfies a new.formula →
      HasConstants job (constant_values a) (state_at new.arena r.next a)
  starts_over a sat =
      let scene = start_scene job s old new on cells codes way r h in
      let z =
      subst (λ (n : ℕ). StaysSo job old new way.others r n a) (start_free job s old new on cells codes way r h)
      (along_stays job old way s.start on constant_values (HasConstants job) (λ cs t. t) (λ t. t) scene new r h.along
      h.grows a) in
      (z.0, z.1 ∙ ap (λ (ids : List CellId). take (constants job) (values_at old.arena ids a)) h.begins.is.others)

-- ---- from nothing

module _ (job : Job) (s : System) (old new : Build) (cells : List CellId) (way : Way) (r : BranchCells)
    (h : GoesFromNothing job s old new cells way r) where
  abbrev AnyState : Unit {0} → State → Type 0
  AnyState e t = IsState job t

  abbrev front : State → List Value
  front t = take (constants job) t.vals

  abbrev ConstantsAlong : Transition (Unit {0}) (List Value)
  ConstantsAlong = Goes AnyState (λ e t. t) front (width_of old) s.constants

  constants_to : (k : Ending) (e : Unit {0}) (cs : List Value) → ConstantsAlong k e cs →
      ConstantsGo (width_of old) job (steps_of s.constants) k e cs
  constants_to k e cs m = let z = goes_ends AnyState (λ e t. t) front (width_of old) s.constants k e cs m in
      (z.0, ((z.1.0, z.1.1.1), z.1.1.0))

  constants_from : (k : Ending) (e : Unit {0}) (cs : List Value) →
      ConstantsGo (width_of old) job (steps_of s.constants) k e cs → ConstantsAlong k e cs
  constants_from k e cs m = ends_go AnyState (λ e t. t) front (width_of old) s.constants k e cs
      (m.0, (m.1.0.0, (m.1.1, m.1.0.1)))

  pub constants_are : AreConstants job s old new r
  constants_are =
      let scene = constants_scene job s old new cells way r h in
      record {
        branch =
            everywhere (of_formula old.formula) (of_formula new.formula) (λ a. tt)
            (ConstantsGo (width_of old) job (steps_of s.constants))
            (reading_of front new.arena r)
            (branch_same (under (of_formula old.formula) (λ a. true)) (under (of_formula new.formula) (λ a. true))
            (λ a. tt) ConstantsAlong
            (ConstantsGo (width_of old) job (steps_of s.constants)) (reading_of front new.arena r) constants_to
            constants_from
            (along_branch job old way s.constants (λ a. true) (λ a. tt) AnyState (λ e t. t) front scene new r h.along
            h.formed h.grows h.whole.below));
        kinds = λ t st.
            along_kinds job old way s.constants (λ a. true) (λ a. tt) AnyState (λ e t. t) front scene new r h.along
            h.formed h.some.at h.some.satisfies refl t
            st (marks_below (length job.names) (in_cinit job)) (cinit_reads job t st);
      }

-- ---- CInit and the assumption read no variable

pub constants_quiet : (w : Width) (job : Job) (s : System) → CanEncode s → StandsFor w job s →
    AllQuiet (variables (constants job)) (steps_of s.constants)
constants_quiet = paths_quiet

pub assume_quiet : (w : Width) (job : Job) (s : System) → CanEncode s → StandsFor w job s →
    mentions (variables (constants job)) s.ker.assume ≡ false
assume_quiet = assume_silent
