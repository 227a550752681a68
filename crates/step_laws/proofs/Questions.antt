-- The questions of a level and of typed states by the states that show them.
use Rattle.std.proofs.Common.{◌≡◌, ◌↔◌, ℕ, zero, suc, ◌+◌, Bool, subst, List, [], ◌∷◌, length, Some, refl, arith}
use Rattle.tla_meaning.specs.declared.job.Job.{Job}
use Rattle.tla_meaning.specs.declared.job.State.{State}
use Rattle.tla_meaning.specs.declared.outcome.Outcome.{Outcome}
use Rattle.tla_meaning.specs.declared.questions.Query.{Query}
use Rattle.tla_meaning.specs.declared.questions.Query.TheVariants.{StepWrong, StepBig, InvNotTrue, InvBig, AssumeBig}
use Rattle.tla_meaning.specs.Executions.{IsExecution, IsStep, IsWrongOutcome, Reaches, invariant, last_of}
use Rattle.tla_meaning.specs.Inductive.{IsTypedStart, TypedHolds, TypedInvariantIs, TypedStepIs}
use Rattle.tla_meaning.specs.Numbers.{Width}
use Rattle.tla_meaning.specs.Questions.{Holds, InvariantIs, IsBigOutcome, IsNotTrue, StepIs}
use Rattle.step_laws.specs.Origins.{Begins, IsExecutionFrom, the_start, typed_start}
use Rattle.step_laws.specs.Rows.{EndsWith, InvariantShows, NextIs, Shows, StepShows}

-- some states show it, with some attempt
abbrev pub SomeShow : (List State → State → Type 0) → Type 0
SomeShow R = (states : List State) × ((t : State) × R states t)

-- ---- the questions of a level

to_execution : (w : Width) (job : Job) (xs : List State) → IsExecutionFrom w job (the_start w job) xs → IsExecution w job xs
to_execution w job [] e = e
to_execution w job (s ∷ ss) e = (e.0.0, e.0.1, e.1)

from_execution : (w : Width) (job : Job) (xs : List State) → IsExecution w job xs → IsExecutionFrom w job (the_start w job) xs
from_execution w job [] e = e
from_execution w job (s ∷ ss) e = ((e.0, e.1), e.2)

ends_reaches : (w : Width) (job : Job) (n : ℕ) (states : List State) (Q : State → Type 0) → EndsWith w job (the_start w job) n states Q → (s : State) × (Reaches w job n s × Q s)
ends_reaches w job n states Q e =
    (e.last, (record { states = states; execution = to_execution w job states e.execution; steps = e.steps; ends = e.ends }, e.so))

reaches_ends : (w : Width) (job : Job) (n : ℕ) (s : State) (Q : State → Type 0) → (r : Reaches w job n s) → Q s → EndsWith w job (the_start w job) n r.states Q
reaches_ends w job n s Q r q = record { execution = from_execution w job r.states r.execution; steps = r.steps; last = s; ends = r.ends; so = q }

pub step_holds : (Is : Outcome → Type 0) (w : Width) (job : Job) (n : ℕ) → StepIs Is w job n ↔ SomeShow (StepShows Is w job (the_start w job) n)
step_holds Is w job zero = (λ q. ([], (q.0, (refl, (q.1, q.2)))), λ r. (r.1.0, r.1.1.1.0, r.1.1.1.1))
step_holds Is w job (suc n) = (
  λ q. (q.2.states, (q.1, reaches_ends w job n q.0 (λ s. NextIs Is w job s q.1) q.2 (q.3, (q.4, q.5)))),
  λ r. let z = ends_reaches w job n r.0 (λ s. NextIs Is w job s r.1.0) r.1.1 in (z.0, r.1.0, z.1.0, z.1.1.0, z.1.1.1.0, z.1.1.1.1),
)

pub invariant_holds : (Is : Outcome → Type 0) (w : Width) (job : Job) (n : ℕ) →
    InvariantIs Is w job n ↔ SomeShow (λ states t. InvariantShows Is w job (the_start w job) n states)
invariant_holds Is w job n = (
  λ q. (q.1.states, (q.0, reaches_ends w job n q.0 (λ s. Is (invariant w job s)) q.1 q.2)),
  λ r. let z = ends_reaches w job n r.0 (λ s. Is (invariant w job s)) r.1.1 in (z.0, z.1.0, z.1.1),
)

-- the questions that are asked of levels
abbrev pub IsOfLevels : Query → Type 0
IsOfLevels AssumeBig = ⊥
IsOfLevels q = Unit {0}

pub question_holds : (q : Query) (w : Width) (job : Job) (n : ℕ) → IsOfLevels q → Holds q w job n ↔ SomeShow (Shows q w job (the_start w job) n)
question_holds StepWrong w job n h = step_holds IsWrongOutcome w job n
question_holds StepBig w job n h = step_holds IsBigOutcome w job n
question_holds InvNotTrue w job n h = invariant_holds IsNotTrue w job n
question_holds InvBig w job n h = invariant_holds IsBigOutcome w job n
question_holds AssumeBig w job n h = absurd h

-- ---- the questions of typed states: the assumption's at level 0, the others at level 1

abbrev pub typed_level : Query → ℕ
typed_level AssumeBig = 0
typed_level q = 1

module _ (within : State → Bool) (w : Width) (job : Job) where
  begins_typed : (s : State) → Begins (typed_start within w job) s → IsTypedStart within w job s
  begins_typed s b = record { state = b.0.0; bounds = b.0.1; holds = b.1 }

  typed_begins : (s : State) → IsTypedStart within w job s → Begins (typed_start within w job) s
  typed_begins s h = ((h.state, h.bounds), h.holds)

  one_state : (states : List State) (l : State) → IsExecutionFrom w job (typed_start within w job) states → length states ≡ 0 + 1 → last_of states ≡ Some l → IsTypedStart within w job l
  one_state [] l e many q = absurd e
  one_state (s ∷ []) l e many q = begins_typed l (by (same q))
    where
      same : Some s ≡ Some l → s ≡ l
      same q = cc

      by : s ≡ l → Begins (typed_start within w job) l
      by h = subst (Begins (typed_start within w job)) h e.0
  one_state (s ∷ t ∷ ss) l e many q = absurd (none (length ss) many)
    where
      none : (n : ℕ) → suc (suc n) ≡ 0 + 1 → ⊥
      none n h = omega (arith, h)

  -- the first and the second state
  two_states : (states : List State) (l : State) → IsExecutionFrom w job (typed_start within w job) states → length states ≡ 1 + 1 → last_of states ≡ Some l →
      (s : State) × (IsTypedStart within w job s × IsStep w job s l)
  two_states [] l e many q = absurd e
  two_states (s ∷ []) l e many q = absurd (none many)
    where
      none : 1 ≡ 1 + 1 → ⊥
      none h = omega (arith, h)
  two_states (s ∷ t ∷ []) l e many q = (s, (begins_typed s e.0, subst (IsStep w job s) (same q) e.1.0))
    where
      same : Some t ≡ Some l → t ≡ l
      same q = cc
  two_states (s ∷ t ∷ u ∷ ss) l e many q = absurd (none (length ss) many)
    where
      none : (n : ℕ) → suc (suc (suc n)) ≡ 1 + 1 → ⊥
      none n h = omega (arith, h)

  pub typed_step_holds : (Is : Outcome → Type 0) → TypedStepIs Is within w job ↔ SomeShow (StepShows Is w job (typed_start within w job) 1)
  typed_step_holds Is = (
    λ q. (
      q.0 ∷ [],
      (
        q.1,
        record {
          execution = (typed_begins q.0 q.2, tt);
          steps = refl;
          last = q.0;
          ends = refl;
          so = (q.3, (q.4, q.5));
        },
      ),
    ),
    λ r. (r.1.1.last, r.1.0, one_state r.0 r.1.1.last r.1.1.execution r.1.1.steps r.1.1.ends, r.1.1.so.0, r.1.1.so.1.0, r.1.1.so.1.1),
  )

  pub typed_invariant_holds : (Is : Outcome → Type 0) →
      TypedInvariantIs Is within w job ↔ SomeShow (λ states t. InvariantShows Is w job (typed_start within w job) 1 states)
  typed_invariant_holds Is = (
    λ q. (
      q.0 ∷ q.1 ∷ [],
      (
        q.1,
        record {
          execution = (typed_begins q.0 q.2, (record { state = q.3; keeps = q.4; steps = q.5 }, tt));
          steps = refl;
          last = q.1;
          ends = refl;
          so = q.6;
        },
      ),
    ),
    λ r.
        let z = two_states r.0 r.1.1.last r.1.1.execution r.1.1.steps r.1.1.ends in
        (z.0, r.1.1.last, z.1.0, z.1.1.state, z.1.1.keeps, z.1.1.steps, r.1.1.so),
  )

  pub typed_question_holds : (q : Query) → TypedHolds q within w job ↔ SomeShow (Shows q w job (typed_start within w job) (typed_level q))
  typed_question_holds AssumeBig = (λ q. ([], (q.0, (refl, ((q.1, q.2), q.3)))), λ r. (r.1.0, r.1.1.1.0.0, r.1.1.1.0.1, r.1.1.1.1))
  typed_question_holds StepWrong = typed_step_holds IsWrongOutcome
  typed_question_holds StepBig = typed_step_holds IsBigOutcome
  typed_question_holds InvNotTrue = typed_invariant_holds IsNotTrue
  typed_question_holds InvBig = typed_invariant_holds IsBigOutcome
