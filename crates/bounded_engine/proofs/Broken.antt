-- The first invariant that is not TRUE.
use Rattle.std.proofs.Common.{◌≡◌, ◌⊎◌, inl, inr, ℕ, suc, ◌<◌, ◌≤◌, Bool, true, false, List, [], ◌∷◌, ◌++◌, map, length, take, drop, refl, sym, ◌∙◌, ap, subst, arith, drop-cons}
use Rattle.std.specs.Prelude.{All, slice_index_or}
use Rattle.std.proofs.lemmas.List.{take_all, take-append-drop}
use Rattle.std.proofs.lemmas.List.Elements.{All-head, All-tail}
use Rattle.tla_values.specs.declared.value.Value.TheVariants as value
use Rattle.tla_meaning.specs.Actions.{val}
use Rattle.tla_meaning.specs.Executions.{IsYes, first_not_yes, invariant, is_yes, no_scope}
use Rattle.tla_meaning.specs.Numbers.{Width}
use Rattle.tla_meaning.specs.Operators.{yes_no}
use Rattle.tla_meaning.specs.declared.expr.Expr.{Expr}
use Rattle.tla_meaning.specs.declared.job.Job.{Job}
use Rattle.tla_meaning.specs.declared.job.State.{State}
use Rattle.tla_meaning.specs.declared.outcome.Outcome.{Outcome}
use Rattle.tla_meaning.specs.declared.questions.Query.{Query}
use Rattle.tla_meaning.specs.declared.questions.Query.TheVariants.{StepWrong, StepBig, InvNotTrue, InvBig, AssumeBig}
use Rattle.bounded_engine.specs.Verdicts.{IsFirstBroken}
use Rattle.bounded_engine.specs.inner.Finding.{IsCauseOf, IsOfInvariants}

module _ (w : Width) (s : State) where
  abbrev gives : List ℕ × Expr → Outcome
  gives e = val w e.1 no_scope s s

  all_yes : (es : List (List ℕ × Expr)) → All (λ e. IsYes (gives e)) es → first_not_yes (map gives es) ≡ yes_no true
  all_yes [] hold = refl
  all_yes (e ∷ es) hold =
      let here : is_yes (gives e) ≡ true = All-head (λ x. IsYes (gives x)) e es hold in
      ap (λ (b : Bool). elim b [ true ↦ first_not_yes (map gives es) | false ↦ gives e ]) here
      ∙ all_yes es (All-tail (λ x. IsYes (gives x)) e es hold)

pub yes_or_no : (b : Bool) → is_yes (yes_no b) ≡ b
yes_or_no true = simp value.outs-Bool
yes_or_no false = simp value.outs-Bool

no_cause : (q : Query) → IsOfInvariants q → IsCauseOf q (yes_no true) → ⊥
no_cause StepWrong of is = of
no_cause StepBig of is = of
no_cause InvNotTrue of is = is (yes_or_no true)
no_cause InvBig of is = is
no_cause AssumeBig of is = of

module _ (w : Width) (job : Job) (s : State) where
  -- there is one where a question of the invariants holds
  pub some_broken : (q : Query) (k : ℕ) → IsOfInvariants q → IsCauseOf q (invariant w job s) → k ≤ length job.invs
      → All (λ e. IsYes (val w e.1 no_scope s s)) (take k job.invs) → k < length job.invs
  some_broken q k of is le hold =
      elim (which k (length job.invs) le) as (λ _. k < length job.invs) [
        | inl lt ↦ lt
        | inr e ↦ absurd (no_cause q of (subst (IsCauseOf q) (all_yes w s job.invs (all_of e)) is))
      ]
    where
      which : (m n : ℕ) → m ≤ n → (m < n) ⊎ (m ≡ n)
      which m n le = grind arith

      all_of : k ≡ length job.invs → All (λ e. IsYes (val w e.1 no_scope s s)) job.invs
      all_of e = subst (All (λ e. IsYes (val w e.1 no_scope s s))) (take_all k job.invs (omega arith)) hold

  pub first_broken : (k : ℕ) (d : List ℕ × Expr) (o : Outcome) → k < length job.invs
      → All (λ e. IsYes (val w e.1 no_scope s s)) (take k job.invs)
      → o ≡ val w (slice_index_or job.invs k d).1 no_scope s s → (IsYes o → ⊥)
      → IsFirstBroken w job s (slice_index_or job.invs k d).0 o
  first_broken k d o lt hold same not = record {
    before = take k job.invs;
    broken = (slice_index_or job.invs k d).1;
    behind = drop (suc k) job.invs;
    invariants = sym (take-append-drop k job.invs) ∙ ap (λ xs. take k job.invs ++ xs) (drop-cons job.invs k d lt);
    hold = hold;
    gives = sym same;
    not_true = not;
  }
