-- What the start, a step and the invariants give at the states that show a question.
use Rattle.std.proofs.Common.{◌≡◌, ℕ, zero, suc, ◌+◌, ◌-◌, ◌<◌, List, [], ◌∷◌, length, Some, None, refl, sym, ◌∙◌, ap, subst, arith}
use Rattle.std.specs.Prelude.{Err, IfOk, Ok, Result, slice_get}
use Rattle.tla_meaning.specs.Executions.{AreSteps, IsExecution, IsState, IsWrongOutcome, Keeps, invariant, last_of, next, start}
use Rattle.tla_meaning.specs.Numbers.{Width}
use Rattle.tla_meaning.specs.Questions.{IsBigOutcome, IsNotTrue}
use Rattle.tla_meaning.specs.declared.job.Job.{Job}
use Rattle.tla_meaning.specs.declared.job.State.{State}
use Rattle.tla_meaning.specs.declared.outcome.Outcome.{Outcome}
use Rattle.tla_meaning.specs.declared.questions.Query.{Query}
use Rattle.tla_meaning.specs.declared.questions.Query.TheVariants.{StepWrong, StepBig, InvNotTrue, InvBig, AssumeBig}
use Rattle.tla_meaning.proofs.WidthLaw.{execution_narrow}
use Rattle.trace_text.specs.declared.verdict.Trace.{Trace}
use Rattle.step_laws.specs.Origins.{IsExecutionFrom, the_start}
use Rattle.step_laws.specs.Rows.{InvariantShows, Shows, StepShows}
use Rattle.bounded_engine.specs.Verdicts.{IsRunOf, StepGives}
use Rattle.bounded_engine.specs.inner.Finding.{IsCauseOf, IsOfInvariants, IsOfSteps, PartGives}

-- ---- the last state

pub last_is : (ss : List State) → last_of ss ≡ slice_get ss (length ss - 1)
last_is [] = refl
last_is (s ∷ []) = refl
last_is (s ∷ t ∷ ts) =
    let at : length (s ∷ t ∷ ts) - 1 ≡ suc (length (t ∷ ts) - 1) = omega arith in
    let here : slice_get (t ∷ ts) (length (t ∷ ts) - 1) ≡ slice_get (s ∷ t ∷ ts) (length (s ∷ t ∷ ts) - 1) = sym (ap (slice_get (s ∷ t ∷ ts)) at) in
    last_is (t ∷ ts) ∙ here

module _ (w : Width) (job : Job) where
  last_state : (a : State) (ss : List State) (s : State) → IsState job a → AreSteps w job a ss → last_of (a ∷ ss) ≡ Some s → IsState job s
  last_state a [] s is steps e = subst (IsState job) (same a s e) is
    where
      same : (x y : State) → Some x ≡ Some y → x ≡ y
      same x y e = cc
  last_state a (b ∷ ss) s is steps e = last_state b ss s steps.0.state steps.1 e

  pub state_of_last : (ss : List State) (s : State) → IsExecution w job ss → last_of ss ≡ Some s → IsState job s
  state_of_last [] s run e = absurd run
  state_of_last (a ∷ ss) s run e = last_state a ss s run.0 run.2 e

pub some_none : (x : State) → Some x ≡ None → ⊥
some_none x e = cc

pub some_is : (x y : State) → Some x ≡ Some y → x ≡ y
some_is x y e = cc

-- an execution from the start
execution_of : (w : Width) (job : Job) (ss : List State) → IsExecutionFrom w job (the_start w job) ss → IsExecution w job ss
execution_of w job [] run = run
execution_of w job (s ∷ ss) run = (run.0.0, run.0.1, run.1)

-- ---- the start and steps

-- what is known where the start was wrong
pub record AtStart (w : Width) (job : Job) (n : ℕ) (q : Query) (states : List State) (t : State) : Type 0 where
  pub level : n ≡ 0
  pub none : states ≡ []
  pub state : IsState job t
  pub cause : IsCauseOf q (start w job t)

-- and where a step was
pub record AtStep (w : Width) (job : Job) (n : ℕ) (q : Query) (states : List State) (s t : State) : Type 0 where
  pub level : 0 < n
  pub run : IsExecution w job states
  pub long : length states ≡ n
  pub ends : last_of states ≡ Some s
  pub now : IsState job s
  pub state : IsState job t
  pub keeps : Keeps job s t
  pub cause : IsCauseOf q (next w job s t)

module _ (w : Width) (job : Job) where
  start_of : (q : Query) (Is : Outcome → Type 0) (n : ℕ) (states : List State) (t : State) → ((o : Outcome) → Is o → IsCauseOf q o)
      → StepShows Is w job (the_start w job) n states t → last_of states ≡ None → AtStart w job n q states t
  start_of q Is zero states t to shown e = record { level = refl; none = shown.0; state = shown.1.0; cause = to _ shown.1.1 }
  start_of q Is (suc n) states t to shown e = absurd (some_none shown.last (sym shown.ends ∙ e))

  pub at_start : (q : Query) (n : ℕ) (states : List State) (t : State) → IsOfSteps q → Shows q w job (the_start w job) n states t → last_of states ≡ None
      → AtStart w job n q states t
  at_start StepWrong n states t of shown e = start_of StepWrong IsWrongOutcome n states t (λ o is. is) shown e
  at_start StepBig n states t of shown e = start_of StepBig IsBigOutcome n states t (λ o is. is) shown e
  at_start InvNotTrue n states t of shown e = absurd of
  at_start InvBig n states t of shown e = absurd of
  at_start AssumeBig n states t of shown e = absurd of

  step_of : (q : Query) (Is : Outcome → Type 0) (n : ℕ) (states : List State) (s t : State) → ((o : Outcome) → Is o → IsCauseOf q o)
      → StepShows Is w job (the_start w job) n states t → last_of states ≡ Some s → AtStep w job n q states s t
  step_of q Is zero states s t to shown e = absurd (some_none s (sym e ∙ ap last_of shown.0))
  step_of q Is (suc n) states s t to shown e =
      let same : shown.last ≡ s = some_is shown.last s (sym shown.ends ∙ e) in
      let run : IsExecution w job states = execution_of w job states shown.execution in
      record {
        level = omega arith;
        run = run;
        long = shown.steps ∙ omega arith;
        ends = e;
        now = state_of_last w job states s run e;
        state = shown.so.0;
        keeps = subst (λ (x : State). Keeps job x t) same shown.so.1.0;
        cause = subst (λ (x : State). IsCauseOf q (next w job x t)) same (to _ shown.so.1.1);
      }

  pub at_step : (q : Query) (n : ℕ) (states : List State) (s t : State) → IsOfSteps q → Shows q w job (the_start w job) n states t → last_of states ≡ Some s
      → AtStep w job n q states s t
  at_step StepWrong n states s t of shown e = step_of StepWrong IsWrongOutcome n states s t (λ o is. is) shown e
  at_step StepBig n states s t of shown e = step_of StepBig IsBigOutcome n states s t (λ o is. is) shown e
  at_step InvNotTrue n states s t of shown e = absurd of
  at_step InvBig n states s t of shown e = absurd of
  at_step AssumeBig n states s t of shown e = absurd of

  -- what the part gives
  abbrev pub IsGiven : ℕ → Query → List State → State → Outcome → Type 0
  IsGiven n q states t o = IsCauseOf q o × PartGives w job n o record { states = states; attempt = Some t }

  pub start_given : (q : Query) (n : ℕ) (states : List State) (t : State) (o : Outcome) → AtStart w job n q states t → o ≡ start w job t → IsGiven n q states t o
  start_given q n states t o at same =
      subst (λ (k : ℕ). IsGiven k q states t o) (sym at.level) (
        subst (IsCauseOf q) (sym same) at.cause,
        record { level = refl; states = at.none; attempt = t; attempt_is = refl; state = at.state; gives = sym same },
      )

  step_gives : (n : ℕ) (o : Outcome) (x : Trace) → StepGives w job n o x → PartGives w job n o x
  step_gives zero o x gives = absurd (let lt : 0 < 0 = gives.level in omega arith)
  step_gives (suc n) o x gives = gives

  pub step_given : (q : Query) (n : ℕ) (states : List State) (s t : State) (o : Outcome) → AtStep w job n q states s t → o ≡ next w job s t
      → IsGiven n q states t o
  step_given q n states s t o at same = (
    subst (IsCauseOf q) (sym same) at.cause,
    step_gives n o record { states = states; attempt = Some t } record {
      level = at.level;
      last = s;
      run = record { execution = execution_narrow w job states at.run; within = at.run; length = at.long; ends = at.ends };
      attempt = t;
      attempt_is = refl;
      state = at.state;
      keeps = at.keeps;
      gives = sym same;
    },
  )

-- ---- invariants

-- what is known where an invariant is not TRUE
pub record AtEnd (w : Width) (job : Job) (n : ℕ) (q : Query) (states : List State) (s : State) : Type 0 where
  pub run : IsRunOf w job (n + 1) states s
  pub now : IsState job s
  pub cause : IsCauseOf q (invariant w job s)

module _ (w : Width) (job : Job) where
  end_of : (q : Query) (Is : Outcome → Type 0) (n : ℕ) (states : List State) (s : State) → ((o : Outcome) → Is o → IsCauseOf q o)
      → InvariantShows Is w job (the_start w job) n states → last_of states ≡ Some s → AtEnd w job n q states s
  end_of q Is n states s to shown e =
      let same : shown.last ≡ s = some_is shown.last s (sym shown.ends ∙ e) in
      let run : IsExecution w job states = execution_of w job states shown.execution in
      record {
        run = record { execution = execution_narrow w job states run; within = run; length = shown.steps; ends = e };
        now = state_of_last w job states s run e;
        cause = subst (λ (x : State). IsCauseOf q (invariant w job x)) same (to _ shown.so);
      }

  pub at_end : (q : Query) (n : ℕ) (states : List State) (s t : State) → IsOfInvariants q → Shows q w job (the_start w job) n states t → last_of states ≡ Some s
      → AtEnd w job n q states s
  at_end StepWrong n states s t of shown e = absurd of
  at_end StepBig n states s t of shown e = absurd of
  at_end InvNotTrue n states s t of shown e = end_of InvNotTrue IsNotTrue n states s (λ o is. is) shown e
  at_end InvBig n states s t of shown e = end_of InvBig IsBigOutcome n states s (λ o is. is) shown e
  at_end AssumeBig n states s t of shown e = absurd of

  pub has_last : (q : Query) (n : ℕ) (states : List State) (t : State) → IsOfInvariants q → Shows q w job (the_start w job) n states t → last_of states ≡ None → ⊥
  has_last StepWrong n states t of shown e = absurd of
  has_last StepBig n states t of shown e = absurd of
  has_last InvNotTrue n states t of shown e = some_none shown.last (sym shown.ends ∙ e)
  has_last InvBig n states t of shown e = some_none shown.last (sym shown.ends ∙ e)
  has_last AssumeBig n states t of shown e = absurd of

-- ---- results

pub if_ok_more : {X E : Type 0} (r : Result X E) (P Q : X → Type 0) → IfOk r P → ((x : X) → P x → Q x) → IfOk r Q
if_ok_more (Ok x) P Q h f = f x h
if_ok_more (Err e) P Q h f = tt
