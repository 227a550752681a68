-- From what an encoder shows of one level to what it keeps, and from there to what its questions say.
use Rattle.std.proofs.Common.{◌≡◌, subst, sym, ℕ, zero, suc, ◌<◌, Bool, inl, inr, ◌⊎◌, arith}
use Rattle.tla_meaning.specs.declared.job.Job.{Job}
use Rattle.tla_meaning.specs.declared.job.State.{State}
use Rattle.tla_meaning.specs.declared.outcome.Outcome.{Outcome}
use Rattle.tla_meaning.specs.declared.questions.Query.{Query}
use Rattle.tla_meaning.specs.declared.questions.Query.TheVariants.{StepWrong, StepBig, InvNotTrue, InvBig, AssumeBig}
use Rattle.tla_meaning.specs.Executions.{invariant}
use Rattle.tla_meaning.specs.Numbers.{Width}
use Rattle.tla_meaning.specs.Questions.{IsBigOutcome, IsNotTrue}
use Rattle.level_laws.specs.Constraints.{Assignment, Allowed, Constraint, Grown, IsTrueWhere, under}
use Rattle.level_laws.specs.Branches.{Branch, BranchReading, Ending, Held, MetWrong, MetBig, Transition}
use Rattle.level_laws.specs.Levels.{Level, LevelReading, Run, Start}
use Rattle.level_laws.proofs.Growing.{grown_refl}
use Rattle.level_laws.proofs.Branches.{branch_later}
use Rattle.level_laws.proofs.Levels.{IsAlso, OnState, first_level, level_later, level_start, level_step, next_level, question_later, question_start, question_state, question_step}
use Rattle.step_laws.specs.Asked.{Asks}
use Rattle.step_laws.specs.Encoded.{IsEncoded, Kept, NoTypedFaultBefore, fault_question, invariant_question, question}
use Rattle.step_laws.specs.Laws.{StartsAt, StartsBy, StepsBy}
use Rattle.step_laws.specs.Origins.{Origin, the_start}
use Rattle.step_laws.specs.Rows.{NoFaultBefore, NoStepFault, NoneShows}
use Rattle.step_laws.proofs.Executing.{NoFaultTo, asks, assume_big, start_big, start_wrong, starts_at, state_shows, step_big, step_wrong}
use Rattle.step_laws.proofs.Questions.{IsOfLevels}

module _ (w : Width) (job : Job) (I : Start State) (P : Transition State State) where
  -- ---- growth

  pub encoded_later : (f g : Constraint) (n : ℕ) (y : Kept) → IsEncoded w job I P f n y → Grown f g → IsEncoded w job I P g n y
  encoded_later f g n y e gr = record {
    level = level_later f g y.run (Run I P n) e.level gr;
    wrong = question_later f g (fault_question y y.wrong) _ e.wrong gr;
    big = question_later f g (fault_question y y.big) _ e.big gr;
    not_true = question_later f g (invariant_question y y.not_true) _ e.not_true gr;
    inv_big = question_later f g (invariant_question y y.inv_big) _ e.inv_big gr;
  }

  -- ---- level 0

  -- the literal is true exactly where the run literal is, and the invariants have such an outcome at the last state
  abbrev pub Judges : (Outcome → Type 0) → Constraint → LevelReading State → (Assignment → Bool) → Type 0
  Judges Is h x q = IsTrueWhere h q (OnState x (λ s. Is (invariant w job s)))

  abbrev pub first_kept : BranchReading State → (Assignment → Bool) → (Assignment → Bool) → Kept
  first_kept x q r = record { run = first_level x; wrong = x.ends MetWrong; big = x.ends MetBig; not_true = q; inv_big = r }

  pub encoded_start : (f g h : Constraint) (x : BranchReading State) (q r : Assignment → Bool) → Allowed f (λ a. Unit {0}) → Branch f g (λ a. tt) I x → Grown g h →
      Judges IsNotTrue h (first_level x) q → Judges IsBigOutcome h (first_level x) r → IsEncoded w job I P h 0 (first_kept x q r)
  encoded_start f g h x q r some b gh jq jr =
      let c : Branch f h (λ a. tt) I x = branch_later f g h (λ a. tt) I x b gh in
      let l : Level h (first_level x) (Run I P 0) = level_start f h I P x some c in
      record {
        level = l;
        wrong = question_start f h I x MetWrong some c;
        big = question_start f h I x MetBig some c;
        not_true = question_state h h (first_level x) x.next (Run I P 0) (λ s. IsNotTrue (invariant w job s)) q l l.now_reads (grown_refl h) jq;
        inv_big = question_state h h (first_level x) x.next (Run I P 0) (λ s. IsBigOutcome (invariant w job s)) r l l.now_reads (grown_refl h) jr;
      }

  -- ---- one level more

  abbrev pub next_kept : LevelReading State → BranchReading State → (Ending → Assignment → Bool) → (Assignment → Bool) → (Assignment → Bool) → Kept
  next_kept x z on q r = record { run = next_level x z (on Held); wrong = on MetWrong; big = on MetBig; not_true = q; inv_big = r }

  -- from a branch that is known where the run literal is true, the literals of its endings with the run's, and those of the
  -- invariants
  pub encoded_step : (f g h : Constraint) (n : ℕ) (y : Kept) (z : BranchReading State) (on : Ending → Assignment → Bool) (q r : Assignment → Bool) →
      IsEncoded w job I P f n y → Grown f g → Branch (under f y.run.on) (under g y.run.on) y.run.now P z → Grown g h →
      ((k : Ending) → IsAlso h (on k) y.run z k) → Judges IsNotTrue h (next_level y.run z (on Held)) q → Judges IsBigOutcome h (next_level y.run z (on Held)) r →
      IsEncoded w job I P h (suc n) (next_kept y.run z on q r)
  encoded_step f g h n y z on q r e fg b gh also jq jr =
      let x : LevelReading State = next_level y.run z (on Held) in
      let l : Level h x (Run I P (suc n)) = level_step f g h y.run z I P n (on Held) e.level fg b gh (also Held) in
      record {
        level = l;
        wrong = question_step f g h y.run z (Run I P n) P e.level fg b gh MetWrong (on MetWrong) (also MetWrong);
        big = question_step f g h y.run z (Run I P n) P e.level fg b gh MetBig (on MetBig) (also MetBig);
        not_true = question_state h h x z.next (Run I P (suc n)) (λ s. IsNotTrue (invariant w job s)) q l l.now_reads (grown_refl h) jq;
        inv_big = question_state h h x z.next (Run I P (suc n)) (λ s. IsBigOutcome (invariant w job s)) r l l.now_reads (grown_refl h) jr;
      }

  -- ---- what the questions say

  module _ (o : Origin) (f : Constraint) (y : Kept) where
    -- of the step into level n + 1
    step_wrong_asks : (Premise : Type 0) (n : ℕ) → StepsBy w job I P (suc n) → (Premise → StartsAt o I) → (Premise → NoFaultTo w job o n) →
        IsEncoded w job I P f (suc n) y → Asks Premise StepWrong w job o (suc n) f (question StepWrong y)
    step_wrong_asks Premise n l starts none e =
        asks Premise StepWrong w job o (suc n) f (question StepWrong y)
        (λ p. step_wrong w job o I P (starts p) n l (none p) f (fault_question y y.wrong) e.wrong)

    step_big_asks : (Premise : Type 0) (n : ℕ) → StepsBy w job I P (suc n) → (Premise → StartsAt o I) → (Premise → NoFaultTo w job o n) →
        (Premise → NoneShows StepWrong w job o (suc n)) → IsEncoded w job I P f (suc n) y → Asks Premise StepBig w job o (suc n) f (question StepBig y)
    step_big_asks Premise n l starts none here e =
        asks Premise StepBig w job o (suc n) f (question StepBig y)
        (λ p. step_big w job o I P (starts p) n l (none p) (here p) f (fault_question y y.big) e.big)

    -- of the invariants of level n
    not_true_asks : (Premise : Type 0) (n : ℕ) → StepsBy w job I P n → (Premise → StartsAt o I) → (Premise → NoFaultTo w job o n) →
        IsEncoded w job I P f n y → Asks Premise InvNotTrue w job o n f (question InvNotTrue y)
    not_true_asks Premise n l starts none e =
        asks Premise InvNotTrue w job o n f (question InvNotTrue y)
        (λ p. state_shows w job o I P (starts p) IsNotTrue n l (none p) f (invariant_question y y.not_true) e.not_true)

    inv_big_asks : (Premise : Type 0) (n : ℕ) → StepsBy w job I P n → (Premise → StartsAt o I) → (Premise → NoFaultTo w job o n) →
        IsEncoded w job I P f n y → Asks Premise InvBig w job o n f (question InvBig y)
    inv_big_asks Premise n l starts none e =
        asks Premise InvBig w job o n f (question InvBig y)
        (λ p. state_shows w job o I P (starts p) IsBigOutcome n l (none p) f (invariant_question y y.inv_big) e.inv_big)

  -- levels from the start: the premise is that no step's fault that comes earlier is shown
  module _ (o : Origin) (by : StartsBy o I) (f : Constraint) (y : Kept) where
    starts : (n : ℕ) (q : Query) → 0 < n → NoFaultBefore q w job o n → StartsAt o I
    starts n q lt p = starts_at w job o I by (p.0 0 lt)

    lower : (n : ℕ) (q : Query) → NoFaultBefore q w job o (suc n) → NoFaultTo w job o n
    lower n q p m lt = p.0 (suc m) (omega (arith, lt))

    upper : (n : ℕ) → ((m : ℕ) → m < n → NoStepFault w job o m) → NoStepFault w job o n → NoFaultTo w job o n
    upper zero p here m lt = absurd (omega (arith, lt))
    upper (suc n) p here m lt = by_cases (before m n (omega (arith, lt)))
      where
        before : (m n : ℕ) → m < suc n → (m < n) ⊎ (m ≡ n)
        before m n lt = grind (arith, lt)

        by_cases : (m < n) ⊎ (m ≡ n) → NoStepFault w job o (suc m)
        by_cases (inl l) = p (suc m) (omega (arith, l))
        by_cases (inr e) = subst (λ (k : ℕ). NoStepFault w job o (suc k)) (sym e) here

    here_starts : (n : ℕ) → ((m : ℕ) → m < n → NoStepFault w job o m) × NoStepFault w job o n → StartsAt o I
    here_starts zero p = starts_at w job o I by p.1
    here_starts (suc n) p = starts_at w job o I by (p.0 0 (omega arith))

    pub encoded_asks : (n : ℕ) (q : Query) → IsOfLevels q → StepsBy w job I P n → IsEncoded w job I P f n y → Asks (NoFaultBefore q w job o n) q w job o n f (question q y)
    encoded_asks n AssumeBig h l e = absurd h
    encoded_asks n InvNotTrue h l e = not_true_asks o f y (NoFaultBefore InvNotTrue w job o n) n l (here_starts n) (λ p. upper n p.0 p.1) e
    encoded_asks n InvBig h l e = inv_big_asks o f y (NoFaultBefore InvBig w job o n) n l (here_starts n) (λ p. upper n p.0 p.1) e
    encoded_asks zero StepWrong h l e =
        asks (NoFaultBefore StepWrong w job o 0) StepWrong w job o 0 f (question StepWrong y) (λ p. start_wrong w job o I by f (fault_question y y.wrong) e.wrong)
    encoded_asks zero StepBig h l e =
        asks (NoFaultBefore StepBig w job o 0) StepBig w job o 0 f (question StepBig y) (λ p. start_big w job o I by p.1 f (fault_question y y.big) e.big)
    encoded_asks (suc n) StepWrong h l e =
        step_wrong_asks o f y (NoFaultBefore StepWrong w job o (suc n)) n l (starts (suc n) StepWrong (omega arith)) (lower n StepWrong) e
    encoded_asks (suc n) StepBig h l e =
        step_big_asks o f y (NoFaultBefore StepBig w job o (suc n)) n l (starts (suc n) StepBig (omega arith)) (lower n StepBig) (λ p. p.1) e

  -- levels from typed states: those of the start of the job come before
  module _ (o : Origin) (by : StartsBy o I) (typed : NoStepFault w job (the_start w job) 0 → StartsAt o I)
      (apart : NoStepFault w job (the_start w job) 0 → (t : State) → I MetBig tt t → I MetWrong tt t → ⊥) (f : Constraint) (y : Kept) where
    typed_lower : (n : ℕ) (q : Query) → NoTypedFaultBefore q w job o (suc n) → NoFaultTo w job o n
    typed_lower n q p m lt = p.1.0 (suc m) (omega arith) (omega (arith, lt))

    typed_upper : (n : ℕ) → ((m : ℕ) → 0 < m → m < n → NoStepFault w job o m) → NoStepFault w job o n → NoFaultTo w job o n
    typed_upper n p here m lt = by_cases (before m n lt)
      where
        before : (m n : ℕ) → m < n → (suc m < n) ⊎ (suc m ≡ n)
        before m n lt = grind (arith, lt)

        by_cases : (suc m < n) ⊎ (suc m ≡ n) → NoStepFault w job o (suc m)
        by_cases (inl l) = p (suc m) (omega arith) l
        by_cases (inr e) = subst (NoStepFault w job o) (sym e) here

    -- the assumption's question of level 0
    pub assume_asks : IsEncoded w job I P f 0 y → Asks (NoTypedFaultBefore AssumeBig w job o 0) AssumeBig w job o 0 f (question AssumeBig y)
    assume_asks e =
        asks (NoTypedFaultBefore AssumeBig w job o 0) AssumeBig w job o 0 f (question AssumeBig y)
        (λ p. assume_big w job o I by (apart p.0) f (fault_question y y.big) e.big)

    -- and those of the levels behind it
    pub typed_asks : (n : ℕ) (q : Query) → IsOfLevels q → StepsBy w job I P (suc n) → IsEncoded w job I P f (suc n) y →
        Asks (NoTypedFaultBefore q w job o (suc n)) q w job o (suc n) f (question q y)
    typed_asks n AssumeBig h l e = absurd h
    typed_asks n InvNotTrue h l e =
        not_true_asks o f y (NoTypedFaultBefore InvNotTrue w job o (suc n)) (suc n) l (λ p. typed p.0) (λ p. typed_upper (suc n) p.1.0 p.1.1) e
    typed_asks n InvBig h l e =
        inv_big_asks o f y (NoTypedFaultBefore InvBig w job o (suc n)) (suc n) l (λ p. typed p.0) (λ p. typed_upper (suc n) p.1.0 p.1.1) e
    typed_asks n StepWrong h l e =
        step_wrong_asks o f y (NoTypedFaultBefore StepWrong w job o (suc n)) n l (λ p. typed p.0) (typed_lower n StepWrong) e
    typed_asks n StepBig h l e =
        step_big_asks o f y (NoTypedFaultBefore StepBig w job o (suc n)) n l (λ p. typed p.0) (typed_lower n StepBig) (λ p. p.1.1) e
