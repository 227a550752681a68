-- The levels of an encoder: the first, of the start, and one more, of a step.
use Rattle.std.proofs.Common.{◌≡◌, ℕ, suc, ◌≤◌, true, List, [], ◌∷◌, ◌++◌, take, length, Some, refl, sym, ◌∙◌, ap}
use Rattle.std.proofs.Common.{subst, le_of_eq}
use mathlib.Core.Path.{fun_ext}
use Rattle.std.specs.Prelude.{slice_get}
use Rattle.sat_formula.specs.declared.lit.Lit.{Lit}
use Rattle.sat_formula.specs.Formula.{Satisfies}
use Rattle.sat_formula.specs.Lit.{lit_value}
use Rattle.tla_values.specs.declared.value.Value.{Value}
use Rattle.tla_meaning.specs.declared.job.Job.{Job}
use Rattle.tla_meaning.specs.declared.job.State.{State}
use Rattle.tla_meaning.specs.Actions.{val}
use Rattle.tla_meaning.specs.Executions.{IsState, constants, in_init, no_scope}
use Rattle.cell_arena.specs.declared.build.Build.{Build}
use Rattle.cell_arena.specs.declared.kinds.CellId.{CellId}
use Rattle.cell_arena.specs.Growth.{Grows}
use Rattle.cell_arena.proofs.Growing.{Grows-trans, Satisfies-before}
use Rattle.kernel_trees.specs.declared.system.System.{System}
use Rattle.kernel_trees.specs.Paths.{marks_below}
use Rattle.kernel_trees.proofs.Marking.{init_reads}
use Rattle.kernel_shapes.specs.Laws.{FitsTyped}
use Rattle.level_laws.specs.Branches.{Branch, BranchReading, Held}
use Rattle.level_laws.specs.Constraints.{Allowed, Assignment, of_formula, under}
use Rattle.level_laws.specs.Levels.{Level, LevelReading}
use Rattle.level_laws.proofs.Branches.{branch_later}
use Rattle.level_laws.proofs.Formulas.{gate_value, lit_reads}
use Rattle.level_laws.proofs.Growing.{grown_refl, value_later}
use Rattle.level_laws.proofs.Levels.{first_level as level_of_branch, level_start, level_step}
use Rattle.level_laws.proofs.Levels.{next_level as level_of_step}
use Rattle.step_laws.specs.Encoded.{IsEncoded, Kept}
use Rattle.step_laws.specs.Laws.{IsNext, StartsBy, StepsBy}
use Rattle.step_laws.specs.Origins.{the_start}
use Rattle.step_laws.specs.PathEnds.{SomeEnds}
use Rattle.step_laws.specs.Systems.{steps_of}
use Rattle.step_laws.specs.Transitions.{ConstantsGo, HasConstants, InitGoes, StepGoes}
use Rattle.step_laws.proofs.Encoded.{encoded_start, encoded_step, next_kept}
use Rattle.step_laws.proofs.Starting.{start_by}
use Rattle.step_laws.proofs.Steps.{HaveKinds, KindsBetween, kinds_of_level, knows_init, steps_more, steps_none}
use Rattle.branch_cells.specs.declared.branch.BranchCells.{BranchCells}
use Rattle.branch_cells.specs.declared.branch.Ends.{Ends}
use Rattle.branch_cells.specs.Ends.{AreAlso, AreBehind, AreEndsOf, EndsBelow, ends_at}
use Rattle.step_branches.specs.Branches.{AreConstants, AreStarts, AreSteps}
use Rattle.step_branches.specs.Readings.{reading, state_at, values_at}
use Rattle.encoder_laws.specs.declared.level.LevelCells.{LevelCells}
use Rattle.encoder_laws.specs.Levels.{IsLevelOf, kept_at, start_along, step_along}
use Rattle.encoder_laws.proofs.Asking.{asked_before}
use Rattle.encoder_laws.proofs.Cells.{AreThere, IsLater, later_grown, past_at, past_same, state_same, there_later}
use Rattle.encoder_laws.proofs.Cells.{values_same, width_stays}
use Rattle.encoder_laws.proofs.Growing.{HasLevelCells, there_before}
use Rattle.encoder_laws.proofs.Judging.{IsJudged, judges_big, judges_not_true, truths_of}
use Rattle.encoder_laws.proofs.Meant.{ConstantKinds, IsMeant, Runs, held_at, knows, level_fits, level_shapes}
use Rattle.encoder_laws.proofs.Meant.{run_state, scoped}
use Rattle.encoder_laws.proofs.Places.{take_front}
use Rattle.encoder_laws.proofs.Starts.{StartParts, known_at, start_branch}

-- the level that has these cells and literals
abbrev pub level_cells : List CellId → Ends → Lit → Lit → LevelCells
level_cells cells ends not_true inv_big = record {
  cells = cells;
  run = ends.holds;
  step_wrong = ends.wrong;
  step_big = ends.big;
  not_true = not_true;
  inv_big = inv_big;
}

-- ---- the constants

-- CInit, encoded from b0 to b1 (`along`), is followed by b2.
pub record MakesConstants (w : ℕ) (job : Job) (s : System) (b0 b1 b2 : Build) (cinit : BranchCells) : Type 0 where
  pub meant : IsMeant w job s
  pub width : b0.arena.width ≡ w
  pub first : Grows b0 b1
  pub constants : AreConstants job s b0 b1 cinit
  pub there : AreThere b1 cinit.next
  pub later : IsLater b1 b2

module _ (w : ℕ) (job : Job) (s : System) (b0 b1 b2 : Build) (cinit : BranchCells)
    (h : MakesConstants w job s b0 b1 b2 cinit) where
  -- the constants that the cells have
  abbrev pub constants_at : Assignment → List Value
  constants_at a = take (constants job) (values_at b2.arena cinit.next a)

  pub constants_branch : Branch (of_formula b0.formula) (of_formula b1.formula) (λ a. tt)
      (ConstantsGo (Some w) job (steps_of s.constants)) (record { ends = ends_at cinit.ends; next = constants_at })
  constants_branch =
      subst (λ (next : Assignment → List Value).
      Branch (of_formula b0.formula) (of_formula b1.formula) (λ a. tt) (ConstantsGo (Some w) job (steps_of s.constants))
      (record { ends = ends_at cinit.ends; next = next }))
      (fun_ext (λ a. ap (λ (f : Assignment → List Value). take (constants job) (f a))
      (values_same b1 b2 h.later.grows cinit.next h.there)))
      (subst (λ (n : ℕ).
      Branch (of_formula b0.formula) (of_formula b1.formula) (λ a. tt) (ConstantsGo (Some n) job (steps_of s.constants))
      (record { ends = ends_at cinit.ends; next = λ a. take (constants job) (values_at b1.arena cinit.next a) }))
      h.width h.constants.branch)

  pub constant_kinds : ConstantKinds (Some w) job s
  constant_kinds = subst (λ (n : ℕ). ConstantKinds (Some n) job s) h.width h.constants.kinds

  -- where CInit's literal is true, a path of CInit holds at each state with the constants
  pub constants_held : (a : Assignment) → Satisfies a b2.formula → ends_at cinit.ends Held a ≡ true → (t : State) →
      HasConstants job (constants_at a) t →
      SomeEnds (Some w) (steps_of s.constants) Held t t
  constants_held a sat o t l =
      held_at w job s h.meant (constants_at a) t (constants_branch.sound Held a
      (Satisfies-before b1 b2 a h.later.grows sat) o) l

-- ---- the start

-- At b2 stand the literals of the assumption (`condition`), known where CInit holds, and those of both (`behind`); from
-- b2 to b3 Init is encoded (`along`), known where both hold; at b4 stand the literals of the whole (`behind`).
pub record MakesStart (w : ℕ) (job : Job) (s : System) (b0 b1 b2 b3 b4 : Build) (cinit : BranchCells)
    (assume both : Ends) (init : BranchCells) (whole : Ends) : Type 0 where
  pub made : MakesConstants w job s b0 b1 b2 cinit
  pub some : Allowed (of_formula b0.formula) (λ a. Unit {0})
  pub below : EndsBelow b2.formula.vars assume
  pub assumed : (a : Assignment) → Satisfies a b2.formula → ends_at cinit.ends Held a ≡ true → (t : State) →
      HasConstants job (take (constants job) (values_at b2.arena cinit.next a)) t →
      AreEndsOf a assume (val (Some w) job.assume no_scope t t)
  pub first : AreBehind b2.formula cinit.ends assume both
  pub starts : AreStarts job s b2 b3 (lit_value both.holds) cinit.next init
  pub onward : IsLater b2 b3
  -- `starts_over` of step_branches
  pub over : (a : Assignment) → Satisfies a b3.formula →
      HasConstants job (take (constants job) (values_at b2.arena cinit.next a)) (state_at b3.arena init.next a)
  pub there : AreThere b3 init.next
  pub last : IsLater b3 b4
  pub all : AreBehind b4.formula both init.ends whole

module _ (w : ℕ) (job : Job) (s : System) (b0 b1 b2 b3 b4 : Build) (cinit : BranchCells) (assume both : Ends)
    (init : BranchCells) (whole : Ends)
    (h : MakesStart w job s b0 b1 b2 b3 b4 cinit assume both init whole) where
  abbrev n : Assignment → List Value
  n = constants_at w job s b0 b1 b2 cinit h.made

  width_there : b2.arena.width ≡ w
  width_there = width_stays b1 b2 h.made.later.grows ∙ (width_stays b0 b1 h.made.first ∙ h.made.width)

  init_branch : Branch (under (of_formula b2.formula) (lit_value both.holds))
      (under (of_formula b3.formula) (lit_value both.holds)) n
      (InitGoes (Some w) job (steps_of s.start)) (reading b3.arena init)
  init_branch =
      subst (λ (m : ℕ).
      Branch (under (of_formula b2.formula) (lit_value both.holds)) (under (of_formula b3.formula)
      (lit_value both.holds)) n
      (InitGoes (Some m) job (steps_of s.start)) (reading b3.arena init)) width_there h.starts.branch

  abbrev InitKinds : ℕ → Type 0
  InitKinds m =
      (a : Assignment) → Satisfies a b2.formula → lit_value both.holds a ≡ true → (t : State) →
      (l : HasConstants job (n a) t) →
      HaveKinds (Some m) (marks_below (length job.names) (in_init job)) t t (init_reads job t l.0) (steps_of s.start)

  init_kinds : InitKinds w
  init_kinds = subst (λ (m : ℕ). InitKinds m) width_there h.starts.kinds

  parts : StartParts (Some w) job (steps_of s.constants) (steps_of s.start) (of_formula b0.formula)
      (of_formula b1.formula) (of_formula b2.formula) (of_formula b3.formula)
      (of_formula b4.formula) n (ends_at cinit.ends) (ends_at assume) (ends_at both) (ends_at whole)
      (reading b3.arena init)
  parts = record {
    some = h.some;
    constants = constants_branch w job s b0 b1 b2 cinit h.made;
    later = later_grown b1 b2 h.made.later;
    reads = λ k. lit_reads b2.formula.vars _ (h.below k);
    assumed = h.assumed;
    first = λ k. gate_value b2.formula _ _ (h.first k);
    onward = later_grown b2 b3 h.onward;
    init = init_branch;
    over = h.over;
    last = later_grown b3 b4 h.last;
    all = λ k. gate_value b4.formula _ _ (h.all k);
  }

  -- what is read of the whole start
  abbrev pub start_read : BranchReading State
  start_read = record { ends = ends_at whole; next = state_at b4.arena init.next }

  pub whole_branch : Branch (of_formula b0.formula) (of_formula b4.formula) (λ a. tt) (start_along (Some w) job s)
      start_read
  whole_branch =
      subst (λ (next : Assignment → State).
      Branch (of_formula b0.formula) (of_formula b4.formula) (λ a. tt) (start_along (Some w) job s)
      (record { ends = ends_at whole; next = next }))
      (state_same b3 b4 h.last.grows init.next h.there)
      (start_branch (Some w) job (steps_of s.constants) (steps_of s.start) (of_formula b0.formula)
      (of_formula b1.formula) (of_formula b2.formula) (of_formula b3.formula)
      (of_formula b4.formula) n (ends_at cinit.ends) (ends_at assume) (ends_at both) (ends_at whole)
      (reading b3.arena init) parts)

  kinds : ConstantKinds (Some w) job s
  kinds = constant_kinds w job s b0 b1 b2 cinit h.made

  pub starts_by : StartsBy (the_start (Some w) job) (start_along (Some w) job s)
  starts_by =
      start_by (Some w) job (steps_of s.constants) (steps_of s.start) (knows w job s h.made.meant kinds)
      (knows_init (Some w) job s h.made.meant.stands (scoped w job s h.made.meant) (λ t st m good.
      let u =
      known_at (Some w) job (steps_of s.constants) (steps_of s.start) (of_formula b0.formula) (of_formula b1.formula)
      (of_formula b2.formula) (of_formula b3.formula)
      (of_formula b4.formula) n (ends_at cinit.ends) (ends_at assume) (ends_at both) (ends_at whole)
      (reading b3.arena init) parts t st m good in
      init_kinds u.at u.satisfies u.true_there t (st, u.same)))

  -- ---- level 0

  pub start_level : Level (of_formula b4.formula) (level_of_branch start_read) (Runs (Some w) job s 0)
  start_level =
      level_start (of_formula b0.formula) (of_formula b4.formula) (start_along (Some w) job s)
      (step_along (Some w) job s) start_read h.some whole_branch

  -- where the run literal is true the state is one of the job and fits the shapes of the start
  pub start_fits : 2 ≤ w → (a : Assignment) → Satisfies a b4.formula → lit_value whole.holds a ≡ true →
      IsState job (state_at b4.arena init.next a)
      × FitsTyped h.made.meant.can.names (level_shapes w s 0) (state_at b4.arena init.next a)
  start_fits wide =
      level_fits w job s h.made.meant wide (of_formula b4.formula) 0 (level_of_branch start_read) start_level

  -- the level with its literals, of which those of the invariants stand over a later build
  pub first_level : (b5 : Build) → IsLater b4 b5 → (xs : List Ends) (bad : Lit × Lit) (not_true inv_big : Lit)
      (levels : List LevelCells) →
      IsJudged (Some w) job b5.formula whole.holds (state_at b5.arena init.next) xs bad not_true inv_big →
      IsLevelOf (Some w) job s b5.formula 0 (kept_at b5.arena levels 0 (level_cells init.next whole not_true inv_big))
  first_level b5 later xs bad not_true inv_big levels j = record {
    encoded =
        encoded_start (Some w) job (start_along (Some w) job s) (step_along (Some w) job s) (of_formula b0.formula)
        (of_formula b5.formula) (of_formula b5.formula) x
        (lit_value not_true) (lit_value inv_big) h.some branch (grown_refl (of_formula b5.formula))
        (judges_not_true (Some w) job b5.formula whole.holds (level_of_branch x) refl xs bad not_true inv_big j)
        (judges_big (Some w) job b5.formula whole.holds (level_of_branch x) refl xs bad not_true inv_big j);
    starts = starts_by;
    steps =
        steps_none (Some w) job s h.made.meant.stands (scoped w job s h.made.meant) (start_along (Some w) job s)
        (run_state w job s h.made.meant starts_by);
    truths =
        truths_of (Some w) job b5.formula whole.holds (level_of_branch x) refl xs bad not_true inv_big j
        (Runs (Some w) job s 0)
        (level_start (of_formula b0.formula) (of_formula b5.formula) (start_along (Some w) job s)
        (step_along (Some w) job s) x h.some branch);
  }
    where
      x : BranchReading State
      x = record { ends = ends_at whole; next = state_at b5.arena init.next }

      branch : Branch (of_formula b0.formula) (of_formula b5.formula) (λ a. tt) (start_along (Some w) job s)
          (record { ends = ends_at whole; next = state_at b5.arena init.next })
      branch =
          subst (λ (next : Assignment → State).
          Branch (of_formula b0.formula) (of_formula b5.formula) (λ a. tt) (start_along (Some w) job s)
          (record { ends = ends_at whole; next = next }))
          (state_same b4 b5 later.grows init.next (there_later b3 b4 init.next h.last.grows h.there))
          (branch_later (of_formula b0.formula) (of_formula b4.formula) (of_formula b5.formula) (λ a. tt)
          (start_along (Some w) job s) start_read whole_branch
          (later_grown b4 b5 later))

-- ---- a step

-- From a level over b0, the newest, Next is encoded to b1 (`along`), known where the level's run literal is true; at b2
-- stand its literals with that one (`also`).
pub record MakesStep (w : ℕ) (job : Job) (s : System) (b0 b1 b2 : Build) (levels : List LevelCells) (n : ℕ)
    (x : LevelCells) (step : BranchCells) (ends : Ends) : Type 0 where
  pub meant : IsMeant w job s
  pub width : b0.arena.width ≡ w
  pub last : slice_get levels n ≡ Some x
  pub many : length levels ≡ suc n
  pub cells : HasLevelCells b0 levels
  pub level : IsLevelOf (Some w) job s b0.formula n (kept_at b0.arena levels n x)
  pub steps : AreSteps job s b0 b1 (lit_value x.run) x.cells step
  pub onward : IsLater b0 b1
  pub there : AreThere b1 step.next
  pub after : IsLater b1 b2
  pub also : AreAlso b2.formula x.run step.ends ends

module _ (w : ℕ) (job : Job) (s : System) (b0 b1 b2 : Build) (levels : List LevelCells) (n : ℕ) (x : LevelCells)
    (step : BranchCells) (ends : Ends)
    (h : MakesStep w job s b0 b1 b2 levels n x step ends) where
  abbrev old : Kept
  old = kept_at b0.arena levels n x

  step_branch : Branch (under (of_formula b0.formula) (lit_value x.run))
      (under (of_formula b1.formula) (lit_value x.run)) (state_at b0.arena x.cells)
      (step_along (Some w) job s) (reading b1.arena step)
  step_branch =
      subst (λ (m : ℕ).
      Branch (under (of_formula b0.formula) (lit_value x.run)) (under (of_formula b1.formula) (lit_value x.run))
      (state_at b0.arena x.cells) (StepGoes (Some m) job (steps_of s.next))
      (reading b1.arena step)) h.width h.steps.branch

  abbrev StepKinds : ℕ → Type 0
  StepKinds m =
      (a : Assignment) → Satisfies a b0.formula → lit_value x.run a ≡ true → (t : State) →
      IsNext job (state_at b0.arena x.cells a) t →
      KindsBetween (Some m) job (steps_of s.next) (state_at b0.arena x.cells a) t

  step_kinds : StepKinds w
  step_kinds = subst (λ (m : ℕ). StepKinds m) h.width h.steps.kinds

  -- what is read of the new level
  abbrev read_at : Build → LevelReading State
  read_at c =
      level_of_step old.run (record { ends = ends_at step.ends; next = state_at c.arena step.next })
      (lit_value ends.holds)

  branch_at : (c : Build) → Grows b1 c →
      Branch (under (of_formula b0.formula) (lit_value x.run)) (under (of_formula b1.formula) (lit_value x.run))
      (state_at b0.arena x.cells)
      (step_along (Some w) job s) (record { ends = ends_at step.ends; next = state_at c.arena step.next })
  branch_at c g =
      subst (λ (next : Assignment → State).
      Branch (under (of_formula b0.formula) (lit_value x.run)) (under (of_formula b1.formula) (lit_value x.run))
      (state_at b0.arena x.cells) (step_along (Some w) job s)
      (record { ends = ends_at step.ends; next = next })) (state_same b1 c g step.next h.there) step_branch

  pub step_level : Level (of_formula b2.formula) (read_at b2) (Runs (Some w) job s (suc n))
  step_level =
      level_step (of_formula b0.formula) (of_formula b1.formula) (of_formula b2.formula) old.run
      (record { ends = ends_at step.ends; next = state_at b2.arena step.next })
      (start_along (Some w) job s) (step_along (Some w) job s) n (lit_value ends.holds) h.level.encoded.level
      (later_grown b0 b1 h.onward) (branch_at b2 h.after.grows)
      (later_grown b1 b2 h.after) (gate_value b2.formula _ _ (h.also Held))

  -- where the run literal is true the state is one of the job and fits the shapes of its level
  pub step_fits : 2 ≤ w → (a : Assignment) → Satisfies a b2.formula → lit_value ends.holds a ≡ true →
      IsState job (state_at b2.arena step.next a)
      × FitsTyped h.meant.can.names (level_shapes w s (suc n)) (state_at b2.arena step.next a)
  step_fits wide = level_fits w job s h.meant wide (of_formula b2.formula) (suc n) (read_at b2) step_level

  steps_by : StepsBy (Some w) job (start_along (Some w) job s) (step_along (Some w) job s) (suc n)
  steps_by =
      steps_more (Some w) job s h.meant.stands (scoped w job s h.meant) (start_along (Some w) job s)
      (run_state w job s h.meant h.level.starts) n h.level.steps
      (kinds_of_level (Some w) job s h.meant.stands (scoped w job s h.meant) (start_along (Some w) job s)
      (run_state w job s h.meant h.level.starts) n (of_formula b0.formula) old.run
      h.level.encoded.level step_kinds)

  abbrev newer : (Assignment → State) → (Assignment → List State) → Assignment → List State
  newer f g a = f a ∷ g a

  onto : (c : Build) → IsLater b2 c → IsLater b1 c
  onto c later = record { formed = h.after.formed; grows = Grows-trans b1 b2 c h.after.grows later.grows }

  from : (c : Build) → IsLater b2 c → Grows b0 c
  from c later = Grows-trans b0 b1 c h.onward.grows (onto c later).grows

  -- the states before the new level's, over a later build and with one level more
  past_is : (c : Build) → IsLater b2 c → (y : LevelCells) →
      newer (state_at b0.arena x.cells) (past_at b0.arena (take n levels))
      ≡ past_at c.arena (take (suc n) (levels ++ y ∷ []))
  past_is c later y =
      fun_ext (λ a. sym (asked_before b0.arena levels n x h.last a))
      ∙ (past_same b0 c (from c later) (take (suc n) levels) (there_before b0 c (from c later) (suc n) levels h.cells)
      ∙ ap (past_at c.arena) (sym (take_front levels y (suc n) (le_of_eq (sym h.many)))))

  -- the next level with its literals, of which those of the invariants stand over a later build
  pub next_level : (b3 : Build) → IsLater b2 b3 → (xs : List Ends) (bad : Lit × Lit) (not_true inv_big : Lit) →
      IsJudged (Some w) job b3.formula ends.holds (state_at b3.arena step.next) xs bad not_true inv_big →
      IsLevelOf (Some w) job s b3.formula (suc n)
      (kept_at b3.arena (levels ++ level_cells step.next ends not_true inv_big ∷ []) (suc n)
      (level_cells step.next ends not_true inv_big))
  next_level b3 later xs bad not_true inv_big j = record {
    encoded =
        subst (λ (past : Assignment → List State).
        IsEncoded (Some w) job (start_along (Some w) job s) (step_along (Some w) job s) (of_formula b3.formula) (suc n)
        (record {
          run = record { on = lit_value ends.holds; past = past; now = state_at b3.arena step.next };
          wrong = lit_value ends.wrong;
          big = lit_value ends.big;
          not_true = lit_value not_true;
          inv_big = lit_value inv_big;
        })) (past_is b3 later (level_cells step.next ends not_true inv_big)) encoded;
    starts = h.level.starts;
    steps = steps_by;
    truths =
        truths_of (Some w) job b3.formula ends.holds (read_at b3) refl xs bad not_true inv_big j
        (Runs (Some w) job s (suc n)) encoded.level;
  }
    where
      z : BranchReading State
      z = record { ends = ends_at step.ends; next = state_at b3.arena step.next }

      encoded : IsEncoded (Some w) job (start_along (Some w) job s) (step_along (Some w) job s) (of_formula b3.formula)
          (suc n)
          (next_kept (Some w) job (start_along (Some w) job s) (step_along (Some w) job s) old.run
          (record { ends = ends_at step.ends; next = state_at b3.arena step.next })
          (ends_at ends) (lit_value not_true) (lit_value inv_big))
      encoded =
          encoded_step (Some w) job (start_along (Some w) job s) (step_along (Some w) job s) (of_formula b0.formula)
          (of_formula b1.formula) (of_formula b3.formula) n old z
          (ends_at ends) (lit_value not_true) (lit_value inv_big) h.level.encoded (later_grown b0 b1 h.onward)
          (branch_at b3 (onto b3 later).grows)
          (later_grown b1 b3 (onto b3 later))
          (λ k. value_later (of_formula b2.formula) (of_formula b3.formula) _ _ (gate_value b2.formula _ _ (h.also k))
          (later_grown b2 b3 later))
          (judges_not_true (Some w) job b3.formula ends.holds (read_at b3) refl xs bad not_true inv_big j)
          (judges_big (Some w) job b3.formula ends.holds (read_at b3) refl xs bad not_true inv_big j)
