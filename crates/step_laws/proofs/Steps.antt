-- The effects of CInit, of Init and of Next of a job by the paths of its system, at states at which these have the kinds of
-- their types.
use Rattle.std.proofs.Common.{◌≡◌, ◌⊎◌, inl, inr, ℕ, suc, ◌<◌, true, false, List, [], ◌∷◌, map, length, refl, sym, ◌∙◌, subst, arith}
use Rattle.tla_meaning.specs.declared.actions.Assignable.{Assignable}
use Rattle.tla_meaning.specs.declared.actions.Effect.{Effect}
use Rattle.tla_meaning.specs.declared.job.Job.{Job}
use Rattle.tla_meaning.specs.declared.job.State.{State}
use Rattle.tla_meaning.specs.Actions.{meaning, val}
use Rattle.tla_meaning.specs.Executions.{IsState, IsYes, constants, in_cinit, in_init, in_next, next, no_scope}
use Rattle.tla_meaning.specs.Numbers.{Width}
use Rattle.kernel_trees.specs.declared.kernel.Ker.{Ker}
use Rattle.kernel_trees.specs.declared.path.KerPath.{KerPath}
use Rattle.kernel_trees.specs.declared.system.KerJob.{KerJob}
use Rattle.kernel_trees.specs.declared.system.System.{System}
use Rattle.kernel_trees.specs.Assignments.{AssignedPath, ReadsNext, assigned_of}
use Rattle.kernel_trees.specs.Laws.{IsWithin, assigned_paths, job_paths}
use Rattle.kernel_trees.specs.Paths.{Marks, marks_below, mentions}
use Rattle.kernel_trees.specs.Picks.{IsOneOf}
use Rattle.kernel_trees.specs.Scoped.{Names}
use Rattle.kernel_trees.specs.Sound.{bound_in}
use Rattle.kernel_trees.specs.Trees.{ker_effect}
use Rattle.kernel_trees.proofs.Assigning.{Kinds}
use Rattle.kernel_trees.proofs.Marking.{cinit_reads, init_reads, next_reads}
use Rattle.level_laws.specs.Constraints.{Assignment, Constraint}
use Rattle.level_laws.specs.Branches.{Held}
use Rattle.level_laws.specs.Levels.{Level, LevelReading, Run, Start}
use Rattle.step_laws.specs.Laws.{IsNext, StepsBy}
use Rattle.step_laws.specs.Outcomes.{EffectBy, OutcomeBy}
use Rattle.step_laws.specs.PathEnds.{SomeEnds}
use Rattle.step_laws.specs.Systems.{StandsFor, steps_of}
use Rattle.step_laws.specs.Transitions.{StepGoes}
use Rattle.step_laws.proofs.Constants.{AllQuiet, some_same, tree_same, variables}
use Rattle.step_laws.proofs.Outcomes.{outcome_by, outcome_same}
use Rattle.step_laws.proofs.Paths.{AllKinds, action_by}
use Rattle.step_laws.proofs.Starting.{KnowsConstants, KnowsInit}

-- ---- a tree's paths, given as a list

-- each of these paths has kinds
abbrev pub HaveKinds : (w : Width) (m : Marks) (s t : State) → ReadsNext m s t → List AssignedPath → Type 0
HaveKinds w m s t r xs = (x : AssignedPath) → IsOneOf x xs → Kinds w m s t r x no_scope

all_kinds : (w : Width) (m : Marks) (s t : State) (r : ReadsNext m s t) (xs : List KerPath) → HaveKinds w m s t r (map (assigned_of m) xs) → AllKinds w m s t r xs
all_kinds w m s t r [] h = tt
all_kinds w m s t r (x ∷ xs) h = (h (assigned_of m x) (inl refl), all_kinds w m s t r xs (λ y o. h y (inr o)))

tree_by : (w : Width) (m : Assignable) (n : ℕ) (k : Ker) (B : Names) (e : Effect) (xs : List AssignedPath) → IsWithin n k B → xs ≡ assigned_paths n m k → (s t : State) →
    e ≡ ker_effect w m k no_scope s t → (r : ReadsNext (marks_below n m) s t) → HaveKinds w (marks_below n m) s t r xs → EffectBy (λ k. SomeEnds w xs k s t) e
tree_by w m n k B e xs h is s t same r c =
    subst (λ (ys : List AssignedPath). EffectBy (λ k. SomeEnds w ys k s t) e) (sym is)
    (subst (EffectBy (λ j. SomeEnds w (assigned_paths n m k) j s t)) (sym same)
    (action_by w m n k B h.0 h.1 s t r (all_kinds w (marks_below n m) s t r (job_paths n m k) (subst (HaveKinds w (marks_below n m) s t r) is c))))

-- ---- the actions of a job

-- no number is bound again in the actions, and their names are the job's
pub record AreScoped (n : ℕ) (k : KerJob) : Type 0 where
  pub cinit : IsWithin n k.cinit (bound_in [])
  pub init : IsWithin n k.init (bound_in [])
  pub next : IsWithin n k.next (bound_in [])

module _ (w : Width) (job : Job) (sys : System) (stands : StandsFor w job sys) (scoped : AreScoped (length job.names) sys.ker) where
  pub next_effect : (s t : State) → IsState job s → (st : IsState job t) →
      HaveKinds w (marks_below (length job.names) (in_next job)) s t (next_reads job t st s) (steps_of sys.next) →
      EffectBy (λ k. SomeEnds w (steps_of sys.next) k s t) ((meaning w job.next no_scope).act (in_next job) s t)
  next_effect s t ss st c =
      tree_by w (in_next job) (length job.names) sys.ker.next (bound_in []) ((meaning w job.next no_scope).act (in_next job) s t) (steps_of sys.next) scoped.next stands.paths.next s t
      (stands.same s t ss st).next (next_reads job t st s) c

  -- a step
  pub next_by : (s t : State) → IsState job s → (st : IsNext job s t) →
      HaveKinds w (marks_below (length job.names) (in_next job)) s t (next_reads job t st.0 s) (steps_of sys.next) →
      OutcomeBy (λ k. StepGoes w job (steps_of sys.next) k s t) (next w job s t)
  next_by s t ss st c =
      outcome_same (λ k m. (st, m)) (λ k m. m.1) (outcome_by ((meaning w job.next no_scope).act (in_next job) s t) (next_effect s t ss st.0 c))

  pub init_effect : (t : State) → (st : IsState job t) →
      HaveKinds w (marks_below (length job.names) (in_init job)) t t (init_reads job t st) (steps_of sys.start) →
      EffectBy (λ k. SomeEnds w (steps_of sys.start) k t t) ((meaning w job.init no_scope).act (in_init job) t t)
  init_effect t st c =
      tree_by w (in_init job) (length job.names) sys.ker.init (bound_in []) ((meaning w job.init no_scope).act (in_init job) t t) (steps_of sys.start) scoped.init stands.paths.start t t
      (stands.same t t st st).init (init_reads job t st) c

  pub cinit_effect : (t : State) → (st : IsState job t) →
      HaveKinds w (marks_below (length job.names) (in_cinit job)) t t (cinit_reads job t st) (steps_of sys.constants) →
      EffectBy (λ k. SomeEnds w (steps_of sys.constants) k t t) ((meaning w job.cinit no_scope).act (in_cinit job) t t)
  cinit_effect t st c =
      tree_by w (in_cinit job) (length job.names) sys.ker.cinit (bound_in []) ((meaning w job.cinit no_scope).act (in_cinit job) t t) (steps_of sys.constants) scoped.cinit
      stands.paths.constants t t (stands.same t t st st).cinit (cinit_reads job t st) c

  -- what is known of the constants, where no path of CInit reads or assigns a variable, nor the assumption
  pub knows_constants : AllQuiet (variables (constants job)) (steps_of sys.constants) → mentions (variables (constants job)) sys.ker.assume ≡ false →
      ((t : State) → (st : IsState job t) → HaveKinds w (marks_below (length job.names) (in_cinit job)) t t (cinit_reads job t st) (steps_of sys.constants)) →
      KnowsConstants w job (steps_of sys.constants)
  knows_constants quiet silent c = record {
    alone = λ k s t ss st e m. some_same w (constants job) (steps_of sys.constants) k s t quiet e m;
    assume = λ s t ss st e.
        (stands.same s s ss ss).assume ∙ (tree_same w (constants job) sys.ker.assume s t silent e ∙ sym (stands.same t t st st).assume);
    cinit = λ t st. cinit_effect t st (c t st);
  }

  pub knows_init : ((t : State) → (st : IsState job t) → SomeEnds w (steps_of sys.constants) Held t t → IsYes (val w job.assume no_scope t t) →
      HaveKinds w (marks_below (length job.names) (in_init job)) t t (init_reads job t st) (steps_of sys.start)) →
      KnowsInit w job (steps_of sys.constants) (steps_of sys.start)
  knows_init c t st h a = init_effect t st (c t st h a)

-- ---- the law of the steps from the ends of runs, level by level

-- the paths have kinds between the two states
abbrev pub KindsBetween : Width → Job → List AssignedPath → State → State → Type 0
KindsBetween w job xs s t =
    (r : ReadsNext (marks_below (length job.names) (in_next job)) s t) → HaveKinds w (marks_below (length job.names) (in_next job)) s t r xs

module _ (w : Width) (job : Job) (sys : System) (stands : StandsFor w job sys) (scoped : AreScoped (length job.names) sys.ker) (I : Start State)
    (states : (n : ℕ) (ss : List State) (s : State) → Run I (StepGoes w job (steps_of sys.next)) n ss s → IsState job s) where
  pub steps_none : StepsBy w job I (StepGoes w job (steps_of sys.next)) 0
  steps_none = record { counts = λ k s t m. m.0; law = λ m lt. absurd (omega (arith, lt)) }

  -- from the ends of runs of n steps too
  pub steps_more : (n : ℕ) → StepsBy w job I (StepGoes w job (steps_of sys.next)) n →
      ((ss : List State) (s t : State) → Run I (StepGoes w job (steps_of sys.next)) n ss s → IsNext job s t → KindsBetween w job (steps_of sys.next) s t) →
      StepsBy w job I (StepGoes w job (steps_of sys.next)) (suc n)
  steps_more n l kinds = record { counts = l.counts; law = λ m lt. by m (before m n lt) }
    where
      before : (m n : ℕ) → m < suc n → (m < n) ⊎ (m ≡ n)
      before m n lt = grind (arith, lt)

      here : (ss : List State) (s t : State) → Run I (StepGoes w job (steps_of sys.next)) n ss s → IsNext job s t → OutcomeBy (λ k. StepGoes w job (steps_of sys.next) k s t) (next w job s t)
      here ss s t r st = next_by w job sys stands scoped s t (states n ss s r) st (kinds ss s t r st (next_reads job t st.0 s))

      by : (m : ℕ) → (m < n) ⊎ (m ≡ n) → (ss : List State) (s t : State) → Run I (StepGoes w job (steps_of sys.next)) m ss s → IsNext job s t →
          OutcomeBy (λ k. StepGoes w job (steps_of sys.next) k s t) (next w job s t)
      by m (inl lt) = l.law m lt
      by m (inr e) = λ ss s t r st. here ss s t (subst (λ (k : ℕ). Run I (StepGoes w job (steps_of sys.next)) k ss s) e r) st

  -- what is read of a level says it of all its runs
  pub kinds_of_level : (n : ℕ) (f : Constraint) (x : LevelReading State) → Level f x (Run I (StepGoes w job (steps_of sys.next)) n) →
      ((a : Assignment) → f.Sat a → x.on a ≡ true → (t : State) → IsNext job (x.now a) t → KindsBetween w job (steps_of sys.next) (x.now a) t) →
      (ss : List State) (s t : State) → Run I (StepGoes w job (steps_of sys.next)) n ss s → IsNext job s t → KindsBetween w job (steps_of sys.next) s t
  kinds_of_level n f x level kinds ss s t r st =
      let u = level.reach ss s r in
      subst (λ (z : State). KindsBetween w job (steps_of sys.next) z t) u.so.1.1
      (kinds u.at u.satisfies u.so.0 t (subst (λ (z : State). IsNext job z t) (sym u.so.1.1) st))
