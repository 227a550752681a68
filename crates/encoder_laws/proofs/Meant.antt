-- What is known of a system that stands for a job.
use Rattle.std.proofs.Common.{◌≡◌, ℕ, zero, suc, ◌≤◌, true, ◌&&◌, IsTrue, List, [], ◌∷◌, map, length, Option, Some}
use Rattle.std.proofs.Common.{None}
use Rattle.std.proofs.Common.{refl, sym, ◌∙◌, ap}
use Rattle.std.specs.Prelude.{option_and_then, option_map}
use Rattle.tla_values.specs.declared.value.Value.{Value}
use Rattle.tla_meaning.specs.declared.job.Job.{Job}
use Rattle.tla_meaning.specs.declared.job.State.{State}
use Rattle.tla_meaning.specs.Executions.{IsState, constants, in_cinit}
use Rattle.tla_meaning.specs.Numbers.{Width}
use Rattle.tla_meaning.proofs.Laws.{none≢some}
use Rattle.tla_meaning.proofs.Views.{and_left}
use Rattle.snowcat_rows.specs.declared.types.Ty.{Ty}
use Rattle.kernel_trees.specs.declared.system.System.{System}
use Rattle.kernel_trees.specs.Paths.{marks_below}
use Rattle.kernel_trees.specs.Sound.{passes}
use Rattle.kernel_trees.specs.Systems.{kinds_of_names, sound_job, sound_paths}
use Rattle.kernel_trees.specs.TypeKinds.{Kind, all_there, kind_of}
use Rattle.kernel_trees.proofs.Marking.{cinit_reads}
use Rattle.kernel_shapes.specs.Fits.{StateFits}
use Rattle.kernel_shapes.specs.Laws.{FitsTyped}
use Rattle.kernel_shapes.specs.Levels.{constant_shapes, kept_constants, shapes_at, start_shapes}
use Rattle.kernel_shapes.specs.Shape.{Shape}
use Rattle.kernel_shapes.specs.Systems.{system_parts}
use Rattle.kernel_shapes.proofs.StartLaw.{constants_fit, each_start_fits}
use Rattle.level_laws.specs.Branches.{Held}
use Rattle.level_laws.specs.Constraints.{Assignment, Constraint}
use Rattle.level_laws.specs.Levels.{Level, LevelReading, Run}
use Rattle.step_laws.specs.Encodable.{CanEncode, constant_count, start_marks, step_marks}
use Rattle.step_laws.specs.Laws.{StartsBy}
use Rattle.step_laws.specs.Origins.{the_start}
use Rattle.step_laws.specs.PathEnds.{SomeEnds}
use Rattle.step_laws.specs.Systems.{StandsFor, steps_of}
use Rattle.step_laws.specs.Transitions.{ConstantsGo, HasConstants}
use Rattle.step_laws.proofs.Constants.{AllQuiet, some_same, variables}
use Rattle.step_laws.proofs.Sound.{sound_scoped}
use Rattle.step_laws.proofs.Starting.{KnowsConstants}
use Rattle.step_laws.proofs.Steps.{AreScoped, HaveKinds, knows_constants}
use Rattle.step_branches.proofs.Runs.{all_normal, follows, run_fits}
use Rattle.step_branches.proofs.SystemFacts.{assume_silent, counts, filled as all_filled, first_ones, many}
use Rattle.step_branches.proofs.SystemFacts.{start_marked, step_marked}
use Rattle.encoder_laws.specs.Levels.{start_along, step_along}

-- The system stands for the job and can be encoded; its paths of CInit read and assign no variable (`constants_quiet`
-- of step_branches).
pub record IsMeant (w : ℕ) (job : Job) (s : System) : Type 0 where
  pub stands : StandsFor (Some w) job s
  pub can : CanEncode s
  pub quiet : AllQuiet (variables (constants job)) (steps_of s.constants)

-- ---- kinds of names

as_many : (ts : List Ty) (ks : List Kind) → all_there (map kind_of ts) ≡ Some ks → length ks ≡ length ts
as_many [] ks e = ap length (sym (same e))
  where
    same : Some [] ≡ Some ks → [] ≡ ks
    same q = cc
as_many (t ∷ ts) ks e = by (kind_of t) (all_there (map kind_of ts)) refl e (λ js q. as_many ts js q)
  where
    by : (o : Option Kind) (r : Option (List Kind)) → all_there (map kind_of ts) ≡ r →
        option_and_then (λ x. option_map (λ xs. x ∷ xs) r) o ≡ Some ks →
        ((js : List Kind) → all_there (map kind_of ts) ≡ Some js → length js ≡ length ts) → length ks ≡ suc (length ts)
    by None r q k go = absurd (none≢some k)
    by (Some a) None q k go = absurd (none≢some k)
    by (Some a) (Some js) q k go = ap length (sym (same k)) ∙ ap suc (go js q)
      where
        same : Some (a ∷ js) ≡ Some ks → a ∷ js ≡ ks
        same z = cc

-- the paths of CInit have kinds, as `AreConstants` says
abbrev pub ConstantKinds : Width → Job → System → Type 0
ConstantKinds w job s =
    (t : State) → (st : IsState job t) → HaveKinds w (marks_below (length job.names) (in_cinit job)) t t
    (cinit_reads job t st) (steps_of s.constants)

-- runs of n steps along the paths
abbrev pub Runs : Width → Job → System → ℕ → List State → State → Type 0
Runs w job s n ss t = Run (start_along w job s) (step_along w job s) n ss t

-- the shapes of a level
abbrev pub level_shapes : ℕ → System → ℕ → List Shape
level_shapes w s n = shapes_at (system_parts w s) (start_shapes (system_parts w s)) n

module _ (w : ℕ) (job : Job) (s : System) (h : IsMeant w job s) where
  pub filled : length s.ker.fixed ≡ length h.can.names
  filled = all_filled (Some w) job s h.can h.stands

  pub same_count : constant_count s ≡ constants job
  same_count = counts (Some w) job s h.can h.stands

  sound : IsTrue (sound_job s.ker)
  sound =
      and_left (sound_job s.ker)
      (passes (λ names.
      sound_paths names s.ker.texts s.constants
      && (sound_paths names s.ker.texts s.start && sound_paths names s.ker.texts s.next)) (kinds_of_names s.ker))
      h.can.sound

  -- a state has as many values as there are kinds
  many_values : (t : State) → IsState job t → length t.vals ≡ length h.can.names
  many_values t st = (st.fills ∙ sym (many (Some w) job s h.can h.stands)) ∙ filled

  pub scoped : AreScoped (length job.names) s.ker
  scoped =
      sound_scoped s.ker (length job.names)
      (sym (as_many s.ker.names h.can.names h.can.kinds) ∙ (sym filled ∙ many (Some w) job s h.can h.stands)) sound

  -- ---- CInit

  pub knows : ConstantKinds (Some w) job s → KnowsConstants (Some w) job (steps_of s.constants)
  knows kinds =
      knows_constants (Some w) job s h.stands scoped h.quiet (assume_silent (Some w) job s h.can h.stands) kinds

  -- which constants a path of CInit leads to is said of every state with them
  pub held_at : (cs : List Value) (t : State) → ConstantsGo (Some w) job (steps_of s.constants) Held tt cs →
      HasConstants job cs t →
      SomeEnds (Some w) (steps_of s.constants) Held t t
  held_at cs t g l =
      some_same (Some w) (constants job) (steps_of s.constants) Held g.0 t h.quiet (g.1.0.1 ∙ sym l.1) g.1.1

  -- where one of its paths holds, the constants fit their shapes
  pub constants_fit_at : 2 ≤ w → (t : State) → IsState job t → SomeEnds (Some w) (steps_of s.constants) Held t t →
      StateFits (kept_constants s.ker.fixed (constant_shapes (system_parts w s))) t.vals
  constants_fit_at wide t st m =
      (constants_fit w s h.can.names t wide filled (many_values t st) h.can.constants
      (all_normal t.vals st.normal) (follows w s.constants t t m)).0

  -- ---- runs

  -- a start fits its shapes
  start_fits : 2 ≤ w → (t : State) → start_along (Some w) job s Held tt t →
      IsState job t × FitsTyped h.can.names (level_shapes w s 0) t
  start_fits wide t g =
      let l : HasConstants job g.1.1.0 t = g.1.1.1.1.0 in
      let st : IsState job t = l.0 in
      let first : HasConstants job g.0 t = (st, l.1 ∙ g.1.1.1.0.0) in (
        st,
        each_start_fits w s h.can.names (start_marks s) t wide filled (many_values t st)
            (start_marked (Some w) job s h.can h.stands)
            h.can.constants h.can.start (all_normal t.vals st.normal)
            (follows w s.constants t t (held_at g.0 t g.1.0 first)) (follows w s.start t t g.1.1.1.1.1),
      )

  pub runs_fit : 2 ≤ w → (n : ℕ) (ss : List State) (t : State) → Runs (Some w) job s n ss t →
      IsState job t × FitsTyped h.can.names (level_shapes w s n) t
  runs_fit wide =
      run_fits w wide job s h.stands.fixed (first_ones (Some w) job s h.can h.stands) h.can.names filled (step_marks s)
      (step_marked (Some w) job s h.can h.stands) h.can.next
      (start_along (Some w) job s) (level_shapes w s 0) (start_fits wide)

  -- where the run literal is true, the state that is read is one of the job and fits the shapes of its level
  pub level_fits : 2 ≤ w → (f : Constraint) (n : ℕ) (x : LevelReading State) → Level f x (Runs (Some w) job s n) →
      (a : Assignment) → f.Sat a → x.on a ≡ true →
      IsState job (x.now a) × FitsTyped h.can.names (level_shapes w s n) (x.now a)
  level_fits wide f n x l a sat o = runs_fit wide n (x.past a) (x.now a) (l.sound a sat o)

  -- ends of runs are states
  pub run_state : StartsBy (the_start (Some w) job) (start_along (Some w) job s) →
      (n : ℕ) (ss : List State) (t : State) → Runs (Some w) job s n ss t → IsState job t
  run_state by zero [] t r = by.counts Held t r
  run_state by (suc n) (u ∷ ss) t r = r.1.0.0
  run_state by zero (u ∷ ss) t r = absurd r
  run_state by (suc n) [] t r = absurd r
