-- What the questions of the levels tell of their errors: executions under a width and without one.
use Rattle.std.proofs.Common.{Bool, ℕ, zero, suc, ◌+◌, ◌≤◌, ◌<◌, ◌≡◌, ◌↔◌, List, [], ◌∷◌, ◌++◌, length, length-append, Some, None, refl, ap, ◌∙◌, sym, subst, arith}
use Rattle.tla_meaning.specs.declared.job.Job.{Job}
use Rattle.tla_meaning.specs.declared.job.State.{State}
use Rattle.tla_meaning.specs.declared.questions.Query.TheVariants.{StepWrong, StepBig, InvNotTrue, InvBig, AssumeBig}
use Rattle.tla_meaning.specs.declared.outcome.Outcome.{Outcome}
use Rattle.tla_meaning.specs.declared.outcome.Outcome.TheVariants.{Wrong}
use Rattle.tla_meaning.specs.Executions.{AreSteps, Errs, StartIsWrong, StepIsWrong, InvariantIsNotTrue, IsExecution, IsStep, IsWrongOutcome, IsYes, Reaches, last_of, next, start}
use Rattle.tla_meaning.specs.Inductive.{IsInductiveError, StartErrs, TypedStepErrs, TypedInvariantErrs, IsTypedStart, NoneHoldsTyped, TypedHolds}
use Rattle.tla_meaning.specs.Numbers.{Width}
use Rattle.tla_meaning.specs.Questions.{Holds, IsBigOutcome, IsNotTrue, NoneBelow, NoneHolds}
use Rattle.tla_meaning.specs.Widths.{Narrow, SameValue, BothWrong, TooBig}
use Rattle.tla_meaning.proofs.WidthLaw.{execution_narrow, hypothesis_narrow, invariant_narrow, next_narrow, start_narrow, yes_narrow}

-- ---- one outcome

pub never_big : {o q : Outcome} → Narrow None o q → IsBigOutcome o → ⊥
never_big (SameValue v) h = h
never_big (BothWrong p q) h = h

wide_yes : {w : Width} → {o q : Outcome} → Narrow w o q → (IsBigOutcome o → ⊥) → IsYes q → IsYes o
wide_yes (SameValue v) n h = h
wide_yes (BothWrong p q) n h = h
wide_yes (TooBig p o) n h = absurd (n tt)

narrow_wrong : {w : Width} → {o q : Outcome} → Narrow w o q → IsWrongOutcome o → IsWrongOutcome q
narrow_wrong (SameValue v) h = h
narrow_wrong (BothWrong p q) h = h
narrow_wrong (TooBig p o) h = absurd h

wide_wrong : {w : Width} → {o q : Outcome} → Narrow w o q → (IsBigOutcome o → ⊥) → IsWrongOutcome q → IsWrongOutcome o
wide_wrong (SameValue v) n h = h
wide_wrong (BothWrong p q) n h = h
wide_wrong (TooBig p o) n h = absurd (n tt)

-- what is not TRUE under the width is not without it
narrow_not_yes : {w : Width} → {o q : Outcome} → Narrow w o q → IsNotTrue o → IsYes q → ⊥
narrow_not_yes (SameValue v) h y = h y
narrow_not_yes (BothWrong p q) h y = absurd (wrong_is_no p y)
  where
    wrong_is_no : (r : _) → IsYes (Wrong r) → ⊥
    wrong_is_no r y = cc
narrow_not_yes (TooBig p o) h y = absurd h

wide_not_yes : {w : Width} → {o q : Outcome} → Narrow w o q → (IsBigOutcome o → ⊥) → (IsYes q → ⊥) → IsNotTrue o
wide_not_yes (SameValue v) n h = h
wide_not_yes (BothWrong p q) n h = tt
wide_not_yes (TooBig p o) n h = absurd (n tt)

-- ---- an execution with one more step

module _ (w : Width) (job : Job) where
  more_steps : (a : State) (ss : List State) (s t : State) → last_of (a ∷ ss) ≡ Some s → AreSteps w job a ss → IsStep w job s t →
      AreSteps w job a (ss ++ t ∷ [])
  more_steps a [] s t e h r = (subst (λ x. IsStep w job x t) (sym (same a s e)) r, tt)
    where
      same : (x y : State) → Some x ≡ Some y → x ≡ y
      same x y e = cc
  more_steps a (b ∷ ss) s t e h r = (h.0, more_steps b ss s t e h.1 r)

  last_more : (a : State) (ss : List State) (t : State) → last_of (a ∷ (ss ++ t ∷ [])) ≡ Some t
  last_more a [] t = refl
  last_more a (b ∷ ss) t = last_more b ss t

  more_execution : (ss : List State) (s t : State) → last_of ss ≡ Some s → IsExecution w job ss → IsStep w job s t → IsExecution w job (ss ++ t ∷ [])
  more_execution [] s t e h r = absurd h
  more_execution (a ∷ ss) s t e h r = (h.0, h.1, more_steps a ss s t e h.2 r)

  last_appended : (ss : List State) (t : State) → last_of (ss ++ t ∷ []) ≡ Some t
  last_appended [] t = refl
  last_appended (a ∷ ss) t = last_more a ss t

  pub reaches_more : (n : ℕ) (s t : State) → Reaches w job n s → IsStep w job s t → Reaches w job (suc n) t
  reaches_more n s t h r = record {
    states = h.states ++ t ∷ [];
    execution = more_execution h.states s t h.ends h.execution r;
    steps = length-append h.states (t ∷ []) ∙ ap (λ x. x + 1) h.steps ∙ omega arith;
    ends = last_appended h.states t;
  }

-- ---- executions both ways

module _ (w : ℕ) (job : Job) (n : ℕ) (none : NoneBelow (Some w) job n) where
  wide_steps : (k : ℕ) (s : State) (ts : List State) → Reaches (Some w) job k s → k + length ts < n → AreSteps None job s ts → AreSteps (Some w) job s ts
  wide_steps k s [] r le h = tt
  wide_steps k s (t ∷ ts) r le h =
      let not_big : IsBigOutcome (next (Some w) job s t) → ⊥ = λ b. none (suc k) (omega arith) StepBig (s, t, r, h.0.state, h.0.keeps, b) in
      let step : IsStep (Some w) job s t = record { state = h.0.state; keeps = h.0.keeps; steps = wide_yes (next_narrow (Some w) job s t) not_big h.0.steps } in
      (step, wide_steps (suc k) t ts (reaches_more (Some w) job k s t r step) (omega arith) h.1)

  pub wide_execution : (ss : List State) → length ss ≤ n → IsExecution None job ss → IsExecution (Some w) job ss
  wide_execution [] le h = h
  wide_execution (s ∷ ss) le h =
      let not_big : IsBigOutcome (start (Some w) job s) → ⊥ = λ b. none zero (omega arith) StepBig (s, h.0, b) in
      let yes : IsYes (start (Some w) job s) = wide_yes (start_narrow (Some w) job s) not_big h.1 in
      (h.0, yes, wide_steps zero s ss (record { states = s ∷ []; execution = (h.0, yes, tt); steps = refl; ends = refl }) (omega arith) h.2)

  pub both_ways : (ss : List State) → length ss ≤ n → IsExecution None job ss ↔ IsExecution (Some w) job ss
  both_ways ss le = (wide_execution ss le, execution_narrow (Some w) job ss)

  pub wide_reaches : (m : ℕ) (s : State) → m < n → Reaches None job m s → Reaches (Some w) job m s
  wide_reaches m s le r = record {
    states = r.states;
    execution = wide_execution r.states (subst (λ x. x ≤ n) (sym r.steps) (omega arith)) r.execution;
    steps = r.steps;
    ends = r.ends;
  }

-- ---- errors by the questions

module _ (w : Width) (job : Job) where
  narrow_reaches : (n : ℕ) (s : State) → Reaches w job n s → Reaches None job n s
  narrow_reaches n s r = record { states = r.states; execution = execution_narrow w job r.states r.execution; steps = r.steps; ends = r.ends }

  pub wrong_errs : (n : ℕ) → Holds StepWrong w job n → Errs job n
  wrong_errs zero h = StartIsWrong h.0 h.1 (narrow_wrong (start_narrow w job h.0) h.2)
  wrong_errs (suc n) h =
      StepIsWrong h.0 h.1 (narrow_reaches n h.0 h.2) h.3 h.4 (narrow_wrong (next_narrow w job h.0 h.1) h.5)

  pub not_true_errs : (n : ℕ) → Holds InvNotTrue w job n → Errs job n
  not_true_errs n h = InvariantIsNotTrue h.0 (narrow_reaches n h.0 h.1) (narrow_not_yes (invariant_narrow w job h.0) h.2)

module _ (w : ℕ) (job : Job) where
  pub none_errs : (n : ℕ) → NoneBelow (Some w) job (suc n) → Errs job n → ⊥
  none_errs n none (StartIsWrong s is wrong) =
      none zero (omega arith) StepWrong (s, is, wide_wrong (start_narrow (Some w) job s) (λ b. none zero (omega arith) StepBig (s, is, b)) wrong)
  none_errs n none (StepIsWrong {n = m} s t r is keeps wrong) =
      let reached : Reaches (Some w) job m s = wide_reaches w job (suc n) none m s (omega arith) r in
      none n (omega arith) StepWrong (
        s,
        t,
        reached,
        is,
        keeps,
        wide_wrong (next_narrow (Some w) job s t) (λ b. none n (omega arith) StepBig (s, t, reached, is, keeps, b)) wrong,
      )
  none_errs n none (InvariantIsNotTrue s r untrue) =
      let reached : Reaches (Some w) job n s = wide_reaches w job (suc n) none n s (omega arith) r in
      none n (omega arith) InvNotTrue (
        s,
        reached,
        wide_not_yes (invariant_narrow (Some w) job s) (λ b. none n (omega arith) InvBig (s, reached, b)) untrue,
      )

-- ---- inductive errors by the typed questions

module _ (within : State → Bool) (w : Width) (job : Job) where
  narrow_start : (s : State) → IsTypedStart within w job s → IsTypedStart within None job s
  narrow_start s h = record { state = h.state; bounds = h.bounds; holds = yes_narrow (hypothesis_narrow w job s) h.holds }

  pub typed_wrong_errs : TypedHolds StepWrong within w job → IsInductiveError within job
  typed_wrong_errs h = TypedStepErrs h.0 h.1 (narrow_start h.0 h.2) h.3 h.4 (narrow_wrong (next_narrow w job h.0 h.1) h.5)

  pub typed_not_true_errs : TypedHolds InvNotTrue within w job → IsInductiveError within job
  typed_not_true_errs h =
      TypedInvariantErrs h.0 h.1 (narrow_start h.0 h.2) h.3 h.4 (yes_narrow (next_narrow w job h.0 h.1) h.5)
      (narrow_not_yes (invariant_narrow w job h.1) h.6)

module _ (within : State → Bool) (w : ℕ) (job : Job) (none : NoneHoldsTyped within (Some w) job) where
  wide_start : (s : State) → IsTypedStart within None job s → IsTypedStart within (Some w) job s
  wide_start s h = record {
    state = h.state;
    bounds = h.bounds;
    holds = wide_yes (hypothesis_narrow (Some w) job s) (λ b. none AssumeBig (s, h.state, h.bounds, b)) h.holds;
  }

  pub none_errs_typed : NoneHolds (Some w) job 0 → IsInductiveError within job → ⊥
  none_errs_typed level (StartErrs e) = none_errs w job 0 (λ m le. subst (NoneHolds (Some w) job) (zero_is m le) level) e
    where
      zero_is : (m : ℕ) → m < 1 → zero ≡ m
      zero_is m le = omega arith
  none_errs_typed level (TypedStepErrs s t h is keeps wrong) =
      none StepWrong (
        s,
        t,
        wide_start s h,
        is,
        keeps,
        wide_wrong (next_narrow (Some w) job s t) (λ b. none StepBig (s, t, wide_start s h, is, keeps, b)) wrong,
      )
  none_errs_typed level (TypedInvariantErrs s t h is keeps steps untrue) =
      let stepped : IsYes (next (Some w) job s t) =
      wide_yes (next_narrow (Some w) job s t) (λ b. none StepBig (s, t, wide_start s h, is, keeps, b)) steps in
      none InvNotTrue (
        s,
        t,
        wide_start s h,
        is,
        keeps,
        stepped,
        wide_not_yes (invariant_narrow (Some w) job t) (λ b. none InvBig (s, t, wide_start s h, is, keeps, stepped, b)) untrue,
      )
