-- Verdicts by what the parts give.
use Rattle.std.proofs.Common.{◌≡◌, ℕ, zero, suc, ◌<◌, List, length, None, refl, sym, subst, arith, take}
use Rattle.std.specs.Prelude.{All, Bool, true, false, slice_index_or}
use Rattle.tla_values.specs.declared.value.Value.{Value}
use Rattle.tla_values.specs.declared.value.Value.TheVariants as value
use Rattle.tla_meaning.specs.Actions.{val}
use Rattle.tla_meaning.specs.Executions.{IsYes, invariant, no_scope}
use Rattle.tla_meaning.specs.Numbers.{Width}
use Rattle.tla_meaning.specs.declared.expr.Expr.{Expr}
use Rattle.tla_meaning.specs.declared.job.Job.{Job}
use Rattle.tla_meaning.specs.declared.job.State.{State}
use Rattle.tla_meaning.specs.declared.outcome.Outcome.{Outcome}
use Rattle.tla_meaning.specs.declared.outcome.Outcome.TheVariants.{Val, Wrong, Big}
use Rattle.tla_meaning.specs.declared.place.Place.{Place}
use Rattle.tla_meaning.specs.declared.questions.Query.{Query}
use Rattle.tla_meaning.specs.declared.questions.Query.TheVariants as query
use Rattle.encoder_laws.specs.Levels.{HaveTruths, IsTruthOutcome}
use Rattle.trace_text.specs.declared.verdict.Fault.{Fault}
use Rattle.trace_text.specs.declared.verdict.Fault.TheVariants.{InvFalse, InvWrong, StartWrong, StepWrong}
use Rattle.trace_text.specs.declared.verdict.Part.{Part}
use Rattle.trace_text.specs.declared.verdict.Part.TheVariants as part
use Rattle.trace_text.specs.declared.verdict.Trace.{Trace}
use Rattle.trace_text.specs.declared.verdict.Verdict.TheVariants.{Error, Overflow}
use Rattle.trace_text.specs.declared.verdict.Where.TheVariants.{Level}
use Rattle.bounded_engine.specs.Verdicts.{InvariantGives, IsFirstBroken}
use Rattle.bounded_engine.specs.inner.Finding.{IsCauseOf, IsOfInvariants, IsOfSteps, IsShown, PartGives}
use Rattle.bounded_engine.proofs.AtStates.{AtEnd}
use Rattle.bounded_engine.proofs.Broken.{first_broken, yes_or_no}

-- ---- the start and steps

pub no_value : (q : Query) (v : Value) → IsCauseOf q (Val v) → IsOfSteps q → ⊥
no_value query.StepWrong v is of = is
no_value query.StepBig v is of = is
no_value query.InvNotTrue v is of = of
no_value query.InvBig v is of = of
no_value query.AssumeBig v is of = of

module _ (w : Width) (job : Job) (t : Trace) (p : Place) where
  wrong_part : (n : ℕ) (f : Fault) → (n ≡ 0 → f ≡ StartWrong p) → (0 < n → f ≡ StepWrong p) → PartGives w job n (Wrong p) t
      → IsShown w job n query.StepWrong (Error n f t)
  wrong_part zero f at_start at_step gives =
      subst (λ (x : Fault). IsShown w job zero query.StepWrong (Error zero x t)) (sym (at_start refl)) (refl, refl, gives)
  wrong_part (suc n) f at_start at_step gives =
      subst (λ (x : Fault). IsShown w job (suc n) query.StepWrong (Error (suc n) x t)) (sym (at_step (omega arith))) (refl, refl, gives)

  pub wrong_shown : (n : ℕ) (q : Query) (f : Fault) → IsCauseOf q (Wrong p) → IsOfSteps q → (n ≡ 0 → f ≡ StartWrong p) → (0 < n → f ≡ StepWrong p)
      → PartGives w job n (Wrong p) t → IsShown w job n q (Error n f t)
  wrong_shown n query.StepWrong f is of at_start at_step gives = wrong_part n f at_start at_step gives
  wrong_shown n query.StepBig f is of at_start at_step gives = absurd is
  wrong_shown n query.InvNotTrue f is of at_start at_step gives = absurd of
  wrong_shown n query.InvBig f is of at_start at_step gives = absurd of
  wrong_shown n query.AssumeBig f is of at_start at_step gives = absurd of

  big_part : (n : ℕ) (x : Part) → (n ≡ 0 → x ≡ part.Start) → (0 < n → x ≡ part.Step) → PartGives w job n (Big p) t
      → IsShown w job n query.StepBig (Overflow (Level n) x p t)
  big_part zero x at_start at_step gives =
      subst (λ (y : Part). IsShown w job zero query.StepBig (Overflow (Level zero) y p t)) (sym (at_start refl)) (refl, refl, gives)
  big_part (suc n) x at_start at_step gives =
      subst (λ (y : Part). IsShown w job (suc n) query.StepBig (Overflow (Level (suc n)) y p t)) (sym (at_step (omega arith))) (refl, refl, gives)

  pub big_shown : (n : ℕ) (q : Query) (x : Part) → IsCauseOf q (Big p) → IsOfSteps q → (n ≡ 0 → x ≡ part.Start) → (0 < n → x ≡ part.Step)
      → PartGives w job n (Big p) t → IsShown w job n q (Overflow (Level n) x p t)
  big_shown n query.StepWrong x is of at_start at_step gives = absurd is
  big_shown n query.StepBig x is of at_start at_step gives = big_part n x at_start at_step gives
  big_shown n query.InvNotTrue x is of at_start at_step gives = absurd of
  big_shown n query.InvBig x is of at_start at_step gives = absurd of
  big_shown n query.AssumeBig x is of at_start at_step gives = absurd of

-- ---- invariants

-- a truth value that is not TRUE
is_false : (b : Bool) (v : Value) → v ≡ value.Bool b → (IsYes (Val v) → ⊥) → v ≡ value.Bool false
is_false false v same not = same
is_false true v same not = absurd (not (subst (λ (x : Value). IsYes (Val x)) (sym same) (yes_or_no true)))

module _ (w : Width) (job : Job) (n : ℕ) (name : List ℕ) (t : Trace) where
  pub broken_wrong : (q : Query) (p : Place) → IsCauseOf q (Wrong p) → IsOfInvariants q → InvariantGives w job n name (Wrong p) t
      → IsShown w job n q (Error n (InvWrong name p) t)
  broken_wrong query.StepWrong p is of gives = absurd of
  broken_wrong query.StepBig p is of gives = absurd of
  broken_wrong query.InvNotTrue p is of gives = (refl, refl, gives)
  broken_wrong query.InvBig p is of gives = absurd is
  broken_wrong query.AssumeBig p is of gives = absurd of

  pub broken_big : (q : Query) (p : Place) → IsCauseOf q (Big p) → IsOfInvariants q → InvariantGives w job n name (Big p) t
      → IsShown w job n q (Overflow (Level n) (part.Inv name) p t)
  broken_big query.StepWrong p is of gives = absurd of
  broken_big query.StepBig p is of gives = absurd of
  broken_big query.InvNotTrue p is of gives = absurd is
  broken_big query.InvBig p is of gives = (refl, refl, gives)
  broken_big query.AssumeBig p is of gives = absurd of

  pub broken_false : (q : Query) (v : Value) → IsCauseOf q (Val v) → IsOfInvariants q → IsTruthOutcome (Val v) → InvariantGives w job n name (Val v) t
      → IsShown w job n q (Error n (InvFalse name) t)
  broken_false query.StepWrong v is of truth gives = absurd of
  broken_false query.StepBig v is of truth gives = absurd of
  broken_false query.InvNotTrue v is of truth gives =
      (refl, refl, subst (λ (x : Value). InvariantGives w job n name (Val x) t) (is_false truth.0 v truth.1 is) gives)
  broken_false query.InvBig v is of truth gives = absurd is
  broken_false query.AssumeBig v is of truth gives = absurd of

-- what the evaluator gives of the invariants
pub broken_given : (w : Width) (job : Job) (n : ℕ) (q : Query) (states : List State) (s : State) (k : ℕ) (d : List ℕ × Expr) (name : List ℕ) (o : Outcome)
    → AtEnd w job n q states s → k < length job.invs → o ≡ invariant w job s
    → All (λ e. IsYes (val w e.1 no_scope s s)) (take k job.invs)
    → (o ≡ val w (slice_index_or job.invs k d).1 no_scope s s) × (IsYes o → ⊥)
    → name ≡ (slice_index_or job.invs k d).0 → HaveTruths w job s
    → IsCauseOf q o × IsTruthOutcome o × InvariantGives w job n name o record { states = states; attempt = None }
broken_given w job n q states s k d name o at lt outcome before there same truths = (
  subst (IsCauseOf q) (sym outcome) at.cause,
  subst IsTruthOutcome (sym there.0) (truths k d lt),
  record {
    last = s;
    run = at.run;
    attempt = refl;
    first = subst (λ (x : List ℕ). IsFirstBroken w job s x o) (sym same) (first_broken w job s k d o lt before there.0 there.1);
  },
)
