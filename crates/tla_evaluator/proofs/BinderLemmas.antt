-- What a filter keeps of its choices.
use Rattle.std.proofs.Common.{◌≡◌, ℕ, ◌≤◌, Bool, List, [], ◌∷◌, ◌++◌, drop, length, refl, ap, ◌∙◌, sym, subst, Some, None, Option, append-nil, Err}
use Rattle.tla_evaluator.proofs.Words.{Op, Outcome, Place, Value, Wrong, bound_table, drop_of_length-le, kept, on_all_truths, truths}
use Rattle.tla_evaluator.specs.declared.answers.Stop.{Stop}
use Rattle.tla_evaluator.specs.inner.Gives.{Gives}
use Rattle.std.proofs.lemmas.Option.{same_Some}

kept_nothing : (cs : List (List Value)) → kept cs [] ≡ []
kept_nothing [] = refl
kept_nothing ([] ∷ cs) = refl
kept_nothing ((v ∷ vs) ∷ cs) = refl

pub kept_done : (cs : List (List Value)) (bs : List Bool) (i : ℕ) (ms whole : List Value) → length bs ≤ i →
    ms ++ kept (drop i cs) (drop i bs) ≡ whole → ms ≡ whole
kept_done cs bs i ms whole le h =
    sym (append-nil ms) ∙ ap (λ l. ms ++ l) (sym (ap (kept (drop i cs)) (drop_of_length-le bs le) ∙ kept_nothing (drop i cs))) ∙ h

-- a binder of truth values
module _ (p : Place) (o : Op) (cs : List (List Value)) (vs ws : List Value) (g : List Bool → Outcome) where
  pub truths_give : (bs : List Bool) (q : Outcome) → ws ≡ vs → bound_table p o cs vs ≡ on_all_truths p g vs → truths ws ≡ Some bs → g bs ≡ q →
      bound_table p o cs vs ≡ q
  truths_give bs q e is t h = is ∙ found (truths vs) (ap truths (sym e) ∙ t)
    where
      found : (l : Option (List Bool)) → l ≡ Some bs → elim l [ None ↦ Wrong p | Some bs ↦ g bs ] ≡ q
      found None k = absurd (cc)
      found (Some cs) k = ap g (same_Some cs bs k) ∙ h

  pub truths_stop : (s : Stop) → ws ≡ vs → bound_table p o cs vs ≡ on_all_truths p g vs → ((f : List Bool → Outcome) → Gives (on_all_truths p f ws) (Err s)) →
      Gives (bound_table p o cs vs) (Err s)
  truths_stop s e is h = subst (λ q. Gives q (Err s)) (ap (on_all_truths p g) e ∙ sym is) (h g)
