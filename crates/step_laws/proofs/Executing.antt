-- Runs along paths and executions; what the literals of a level and of a step answer.
use Rattle.std.proofs.Common.{◌≡◌, ℕ, zero, suc, ◌+◌, ◌<◌, true, List, [], ◌∷◌, length, reverse, Some, refl, sym, ◌∙◌, ap, arith}
use Rattle.tla_meaning.specs.declared.job.Job.{Job}
use Rattle.tla_meaning.specs.declared.job.State.{State}
use Rattle.tla_meaning.specs.declared.outcome.Outcome.{Outcome}
use Rattle.tla_meaning.specs.declared.questions.Query.{Query}
use Rattle.tla_meaning.specs.declared.questions.Query.TheVariants.{AssumeBig, StepWrong, StepBig}
use Rattle.tla_meaning.specs.Executions.{IsWrongOutcome, invariant, last_of}
use Rattle.tla_meaning.specs.Questions.{IsBigOutcome}
use Rattle.tla_meaning.specs.Numbers.{Width}
use Rattle.level_laws.specs.Constraints.{Assignment, Constraint}
use Rattle.level_laws.specs.Branches.{Held, MetWrong, MetBig, Transition}
use Rattle.level_laws.specs.Levels.{AtStart, Behind, Level, LevelReading, Question, QuestionReading, Run, Start}
use Rattle.level_laws.proofs.Levels.{at_start_same, behind_same, question_attempt, question_same, question_turned, turned}
use Rattle.step_laws.specs.Asked.{Asks, StandsForAll}
use Rattle.step_laws.specs.Laws.{StartsAt, StartsBy, StepsBy}
use Rattle.step_laws.specs.Origins.{Begins, IsExecutionFrom, Origin, Reached}
use Rattle.step_laws.specs.Rows.{InvariantShows, NextIs, NoStepFault, NoneShows, Shows, StartRow, StateRow, StepRow}
use Rattle.step_laws.proofs.Ordered.{Turned, ends_with, start_rows, state_rows, step_rows}
use Rattle.step_laws.proofs.Ordered as ordered

-- no step so far is Wrong or Big
abbrev pub NoFaultTo : Width → Job → Origin → ℕ → Type 0
NoFaultTo w job o n = (m : ℕ) → m < n → NoStepFault w job o (suc m)

module _ (w : Width) (job : Job) (o : Origin) (I : Start State) (P : Transition State State) where
  abbrev By : ℕ → Type 0
  By n = StepsBy w job I P n

  fewer : (n : ℕ) → By (suc n) → By n
  fewer n l = record { counts = l.counts; law = λ m lt. l.law m (omega (arith, lt)) }

  no_fewer : (n : ℕ) → NoFaultTo w job o (suc n) → NoFaultTo w job o n
  no_fewer n c m lt = c m (omega (arith, lt))

  -- each execution is a run
  pub exec_run : ((s : State) → Begins o s → I Held tt s) → (n : ℕ) → By n → (ss : List State) (s : State) → Reached w job o n ss s → Run I P n ss s
  exec_run up zero l [] s r = up s r
  exec_run up (suc n) l (u ∷ ss) s r =
      let x = exec_run up n (fewer n l) ss u r.0 in
      (x, (l.law n (omega arith) ss u s x (r.1.state, r.1.keeps)).yes r.1.steps)
  exec_run up zero l (u ∷ ss) s r = absurd r
  exec_run up (suc n) l [] s r = absurd r

  -- each execution of n steps is read somewhere, whatever was asked
  pub stands_for_all : ((s : State) → Begins o s → I Held tt s) → (n : ℕ) → By n → (f : Constraint) (x : LevelReading State) → Level f x (Run I P n) →
      StandsForAll w job o n f (λ a. reverse (x.now a ∷ x.past a))
  stands_for_all up n l f x level states e many =
      let z = last_there states e many in
      let t = ordered.turned w job o n states (λ s. Unit {0}) (record { execution = e; steps = many; last = z.0; ends = z.1; so = tt }) in
      let u = level.reach t.past t.now (exec_run up n l t.past t.now t.reached) in
      record {
        at = u.at;
        satisfies = u.satisfies;
        so = ap (λ (s : State). reverse (s ∷ x.past u.at)) u.so.1.1 ∙ (ap (λ (ss : List State). reverse (t.now ∷ ss)) u.so.1.0 ∙ sym t.same);
      }
    where
      some_last : (s : State) (ss : List State) → (l : State) × (last_of (s ∷ ss) ≡ Some l)
      some_last s [] = (s, refl)
      some_last s (u ∷ ss) = some_last u ss

      last_there : (states : List State) → IsExecutionFrom w job o states → length states ≡ n + 1 → (l : State) × (last_of states ≡ Some l)
      last_there [] e many = absurd e
      last_there (s ∷ ss) e many = some_last s ss

  module _ (starts : StartsAt o I) where
    -- each run is an execution, where no step so far is Wrong or Big
    pub run_exec : (n : ℕ) → By n → NoFaultTo w job o n → (ss : List State) (s : State) → Run I P n ss s → Reached w job o n ss s
    run_exec zero l c [] s r = starts.down s r
    run_exec (suc n) l c (u ∷ ss) t r =
        let ex = run_exec n (fewer n l) (no_fewer n c) ss u r.0 in
        let st = l.counts Held u t r.1 in
        let law = l.law n (omega arith) ss u t r.0 st in
        let none = c n (omega arith) in
        let nw : P MetWrong u t → ⊥ = λ m. none.0 (reverse (u ∷ ss)) t (ends_with w job o n ss u (λ s. NextIs IsWrongOutcome w job s t) ex (st.0, (st.1, law.is_wrong.1 m))) in
        let nb : P MetBig u t → ⊥ = λ m. none.1 (reverse (u ∷ ss)) t (ends_with w job o n ss u (λ s. NextIs IsBigOutcome w job s t) ex (st.0, (st.1, law.is_big.1 (m, nw)))) in
        (ex, record { state = st.0; keeps = st.1; steps = law.is_yes r.1 nw nb })
    run_exec zero l c (u ∷ ss) s r = absurd r
    run_exec (suc n) l c [] s r = absurd r

    -- ---- the questions of the step after n

    module _ (n : ℕ) (l : By (suc n)) (c : NoFaultTo w job o n) where
      to_exec : (ss : List State) (s : State) → Run I P n ss s → Reached w job o n ss s
      to_exec = run_exec n (fewer n l) c

      to_run : (ss : List State) (s : State) → Reached w job o n ss s → Run I P n ss s
      to_run = exec_run starts.up n (fewer n l)

      pub step_wrong : (f : Constraint) (x : QuestionReading State State) → Question f x (Behind (Run I P n) (λ s t. P MetWrong s t)) →
          Question f (turned x) (Shows StepWrong w job o (suc n))
      step_wrong f x q =
          question_turned f x (StepRow IsWrongOutcome w job o n) (Shows StepWrong w job o (suc n)) (step_rows w job o IsWrongOutcome n)
          (question_same f x (Behind (Run I P n) (λ s t. P MetWrong s t)) (StepRow IsWrongOutcome w job o n)
          (behind_same to_exec (λ ss s t r m. let st = l.counts MetWrong s t m in (st.0, (st.1, (l.law n (omega arith) ss s t r st).is_wrong.1 m))))
          (behind_same to_run (λ ss s t r m. (l.law n (omega arith) ss s t (to_run ss s r) (m.0, m.1.0)).is_wrong.0 m.1.1))
          q)

      pub step_big : NoneShows StepWrong w job o (suc n) → (f : Constraint) (x : QuestionReading State State) → Question f x (Behind (Run I P n) (λ s t. P MetBig s t)) →
          Question f (turned x) (Shows StepBig w job o (suc n))
      step_big none f x q =
          question_turned f x (StepRow IsBigOutcome w job o n) (Shows StepBig w job o (suc n)) (step_rows w job o IsBigOutcome n)
          (question_same f x (Behind (Run I P n) (λ s t. P MetBig s t)) (StepRow IsBigOutcome w job o n)
          (behind_same to_exec (λ ss s t r m.
          let st = l.counts MetBig s t m in
          let law = l.law n (omega arith) ss s t r st in (
            st.0,
            (
              st.1,
              law.is_big.1 (
                m,
                λ k.
                    none (reverse (s ∷ ss)) t (ends_with w job o n ss s (λ s. NextIs IsWrongOutcome w job s t) (to_exec ss s r) (st.0, (st.1, law.is_wrong.1 k))),
              ),
            ),
          )))
          (behind_same to_run (λ ss s t r m. ((l.law n (omega arith) ss s t (to_run ss s r) (m.0, m.1.0)).is_big.0 m.1.1).0))
          q)

    -- ---- the invariants of level n

    pub state_shows : (Is : Outcome → Type 0) (n : ℕ) → By n → NoFaultTo w job o n → (f : Constraint) (x : QuestionReading State State) →
        Question f x (Behind (Run I P n) (λ s t. Is (invariant w job s))) → Question f (turned x) (λ states t. InvariantShows Is w job o n states)
    state_shows Is n l c f x q =
        question_turned f x (StateRow Is w job o n) (λ states t. InvariantShows Is w job o n states) (state_rows w job o Is n)
        (question_same f x (Behind (Run I P n) (λ s t. Is (invariant w job s))) (StateRow Is w job o n)
        (behind_same (run_exec n l c) (λ ss s t r m. m))
        (behind_same (exec_run starts.up n l) (λ ss s t r m. m))
        q)

-- ---- the start

module _ (w : Width) (job : Job) (o : Origin) (I : Start State) (by : StartsBy o I) where
  pub start_wrong : (f : Constraint) (x : QuestionReading State State) → Question f x (AtStart (λ t. I MetWrong tt t)) → Question f (turned x) (Shows StepWrong w job o 0)
  start_wrong f x q =
      question_turned f x (StartRow IsWrongOutcome o) (Shows StepWrong w job o 0) (start_rows w job o IsWrongOutcome)
      (question_same f x (AtStart (λ t. I MetWrong tt t)) (StartRow IsWrongOutcome o)
      (at_start_same (λ t m. let st = by.counts MetWrong t m in (st, (by.law t st).is_wrong.1 m)))
      (at_start_same (λ t m. (by.law t m.0).is_wrong.0 m.1))
      q)

  pub start_big : NoneShows StepWrong w job o 0 → (f : Constraint) (x : QuestionReading State State) → Question f x (AtStart (λ t. I MetBig tt t)) →
      Question f (turned x) (Shows StepBig w job o 0)
  start_big none f x q =
      question_turned f x (StartRow IsBigOutcome o) (Shows StepBig w job o 0) (start_rows w job o IsBigOutcome)
      (question_same f x (AtStart (λ t. I MetBig tt t)) (StartRow IsBigOutcome o)
      (at_start_same (λ t m. let st = by.counts MetBig t m in (st, (by.law t st).is_big.1 (m, λ k. none [] t (refl, (st, (by.law t st).is_wrong.1 k))))))
      (at_start_same (λ t m. ((by.law t m.0).is_big.0 m.1).0))
      q)

  -- where it is never Wrong too, as in a typed start behind level 0
  pub assume_big : ((t : State) → I MetBig tt t → I MetWrong tt t → ⊥) → (f : Constraint) (x : QuestionReading State State) →
      Question f x (AtStart (λ t. I MetBig tt t)) → Question f (turned x) (Shows AssumeBig w job o 0)
  assume_big apart f x q =
      question_turned f x (StartRow IsBigOutcome o) (Shows AssumeBig w job o 0) (start_rows w job o IsBigOutcome)
      (question_same f x (AtStart (λ t. I MetBig tt t)) (StartRow IsBigOutcome o)
      (at_start_same (λ t m. let st = by.counts MetBig t m in (st, (by.law t st).is_big.1 (m, apart t m))))
      (at_start_same (λ t m. ((by.law t m.0).is_big.0 m.1).0))
      q)

  -- where no state makes the start Wrong or Big, executions begin where runs do
  pub starts_at : NoStepFault w job o 0 → StartsAt o I
  starts_at none = record {
    up = λ s h. (by.law s h.0).yes h.1;
    down = λ s h.
        let st = by.counts Held s h in
        let law = by.law s st in
        let nw : I MetWrong tt s → ⊥ = λ m. none.0 [] s (refl, (st, law.is_wrong.1 m)) in
        (st, law.is_yes h nw (λ m. none.1 [] s (refl, (st, law.is_big.1 (m, nw)))));
  }

-- ---- answers

-- a question that is met both ways under a premise asks what it says
pub asks : (Premise : Type 0) (q : Query) (w : Width) (job : Job) (o : Origin) (n : ℕ) (f : Constraint) (x : QuestionReading State State) →
    (Premise → Question f x (Shows q w job o n)) → Asks Premise q w job o n f x
asks Premise q w job o n f x u = record {
  real = λ p. (u p).sound;
  missed = λ p. question_attempt f x (Shows q w job o n) (u p);
}

-- what is refuted is not shown
pub refuted : (Premise : Type 0) (q : Query) (w : Width) (job : Job) (o : Origin) (n : ℕ) (f : Constraint) (x : QuestionReading State State) →
    Asks Premise q w job o n f x → Premise → ((a : Assignment) → f.Sat a → x.asks a ≡ true → ⊥) → NoneShows q w job o n
refuted Premise q w job o n f x u p none states t m = let a = u.missed p states t m in none a.at a.satisfies a.so.0
