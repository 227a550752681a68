-- The law of widths, for every tree.
use Rattle.std.proofs.Common.{Bool, true, false, List, [], ◌∷◌, map, length, None, refl, sym, subst}
use Rattle.tla_meaning.specs.declared.expr.Expr.{Expr, roll-Expr}
use Rattle.tla_meaning.specs.declared.expr.Expr.TheOpen.{Expr-F}
use Rattle.tla_meaning.specs.declared.expr.Expr.TheFolds.{map-Expr, ind-Expr}
use Rattle.tla_meaning.specs.declared.job.Env.{Env}
use Rattle.tla_meaning.specs.declared.job.Job.{Job}
use Rattle.tla_meaning.specs.declared.job.State.{State}
use Rattle.tla_meaning.specs.declared.outcome.Outcome.{Outcome}
use Rattle.tla_meaning.specs.declared.outcome.Outcome.TheVariants.{Val}
use Rattle.tla_meaning.specs.declared.actions.Assignable.{Assignable}
use Rattle.tla_meaning.specs.Meaning.{Meaning, role}
use Rattle.tla_meaning.specs.Actions.{val, act, meaning, node, effect_of}
use Rattle.tla_meaning.specs.Executions.{scope_of, no_scope, in_cinit, in_init, in_next, start, next, is_yes, IsYes, first_not_yes, invariant, AreSteps, IsExecution}
use Rattle.tla_meaning.specs.Inductive.{hypothesis}
use Rattle.tla_meaning.specs.Numbers.{Width}
use Rattle.tla_meaning.specs.Shapes.{truth}
use Rattle.tla_meaning.specs.Widths.{Narrow, SameValue, BothWrong, TooBig}
use Rattle.tla_meaning.proofs.MeaningLemmas.{meaning-roll}
use Rattle.tla_meaning.proofs.Views.{false≢true}
use Rattle.tla_meaning.proofs.Narrow.{AllNarrow, none_narrow, more_narrow, each_narrow}
use Rattle.tla_meaning.proofs.NarrowEffects.{NarrowEffect, no_effects, more_effects, all_effects, effect_of_narrow, outcome_of_narrow, effects_and_narrow}
use Rattle.tla_meaning.proofs.NarrowViews.{NarrowDenotation, NarrowScope, no_named, NarrowMeaning, AllMeanings, no_meanings, more_meanings, view_narrow}
use Rattle.tla_meaning.proofs.NarrowNodes.{denotation_narrow}

abbrev Narrows : Width → Expr → Type 0
Narrows w e = NarrowMeaning w (meaning w e) (meaning None e)

children_narrow : (w : Width) (ys : List ((e : Expr) × Narrows w e)) →
    AllMeanings w (map (meaning w) (map (λ y. y.0) ys)) (map (meaning None) (map (λ y. y.0) ys))
children_narrow w [] = no_meanings
children_narrow w (y ∷ ys) = more_meanings (meaning w y.0) (meaning None y.0) y.1 (children_narrow w ys)

-- in scopes that are themselves related
pub meaning_narrow : (w : Width) (e : Expr) → Narrows w e
meaning_narrow w = ind-Expr (Narrows w) (λ x y is.
    subst (λ (z : Expr-F Expr). Narrows w (roll-Expr z)) is (λ a b r.
    let z : Expr-F Expr = map-Expr ((e : Expr) × Narrows w e) Expr (λ e. e.0) y in
    let k : Meaning = node w (map-Expr Expr Meaning (meaning w) z) in
    let l : Meaning = node None (map-Expr Expr Meaning (meaning None) z) in
    let same : NarrowDenotation w (k a) (l b) =
    denotation_narrow w z.place z.op (length z.binds) _ _
    (view_narrow z.place (role z.op (length z.binds)) z.binds a b (children_narrow w y.args) r) in
    subst (λ (m : Meaning). NarrowDenotation w (m a) (meaning None (roll-Expr z) b)) (sym (meaning-roll w z))
    (subst (λ (m : Meaning). NarrowDenotation w (k a) (m b)) (sym (meaning-roll None z)) same)))

closed_scope : {w : Width} → (env : Env) → NarrowScope w (scope_of env) (scope_of env)
closed_scope env = record { bound = refl; named = no_named }

empty_scope : {w : Width} → NarrowScope w no_scope no_scope
empty_scope = record { bound = refl; named = no_named }

pub val_narrow : (w : Width) (e : Expr) (env : Env) (s t : State) → Narrow w (val w e (scope_of env) s t) (val None e (scope_of env) s t)
val_narrow w e env s t = (meaning_narrow w e (scope_of env) (scope_of env) (closed_scope env)).value s t

pub act_narrow : (w : Width) (m : Assignable) (e : Expr) (env : Env) (s t : State) →
    Narrow w (act w m e (scope_of env) s t) (act None m e (scope_of env) s t)
act_narrow w m e env s t =
    outcome_of_narrow ((meaning w e (scope_of env)).act m s t) ((meaning None e (scope_of env)).act m s t)
    ((meaning_narrow w e (scope_of env) (scope_of env) (closed_scope env)).act m s t)

value_alone : (w : Width) (e : Expr) (s t : State) → Narrow w (val w e no_scope s t) (val None e no_scope s t)
value_alone w e s t = (meaning_narrow w e no_scope no_scope empty_scope).value s t

-- the effect of a part in its position
part_narrow : (w : Width) (m : Assignable) (e : Expr) (s : State) → NarrowEffect w ((meaning w e no_scope).act m s s) ((meaning None e no_scope).act m s s)
part_narrow w m e s = (meaning_narrow w e no_scope no_scope empty_scope).act m s s

pub start_narrow : (w : Width) (job : Job) (s : State) → Narrow w (start w job s) (start None job s)
start_narrow w job s =
    outcome_of_narrow _ _ (effects_and_narrow (
    more_effects _ _ (part_narrow w (in_cinit job) job.cinit s) (
    more_effects _ _ (effect_of_narrow (value_alone w job.assume s s)) (
    more_effects _ _ (part_narrow w (in_init job) job.init s) no_effects))))

pub hypothesis_narrow : (w : Width) (job : Job) (s : State) → Narrow w (hypothesis w job s) (hypothesis None job s)
hypothesis_narrow w job s =
    outcome_of_narrow _ _ (effects_and_narrow (
    more_effects _ _ (part_narrow w (in_cinit job) job.cinit s) (
    more_effects _ _ (effect_of_narrow (value_alone w job.assume s s)) (
    all_effects (λ e. effect_of (val w e.1 no_scope s s)) (λ e. effect_of (val None e.1 no_scope s s)) (λ e. effect_of_narrow (value_alone w e.1 s s)) job.invs))))

pub next_narrow : (w : Width) (job : Job) (s t : State) → Narrow w (next w job s t) (next None job s t)
next_narrow w job s t =
    outcome_of_narrow ((meaning w job.next no_scope).act (in_next job) s t) ((meaning None job.next no_scope).act (in_next job) s t)
    ((meaning_narrow w job.next no_scope no_scope empty_scope).act (in_next job) s t)

first_narrow : {w : Width} → {os qs : List Outcome} → AllNarrow w os qs → Narrow w (first_not_yes os) (first_not_yes qs)
first_narrow none_narrow = SameValue (truth true)
first_narrow (more_narrow {os = os} {qs = qs} (SameValue v) rs) = by_truth (first_narrow rs) (is_yes (Val v))
  where
    by_truth : {w : Width} → Narrow w (first_not_yes os) (first_not_yes qs) → (b : Bool) →
        Narrow w (elim b [ true ↦ first_not_yes os | false ↦ Val v ]) (elim b [ true ↦ first_not_yes qs | false ↦ Val v ])
    by_truth r true = r
    by_truth r false = SameValue v
first_narrow (more_narrow (BothWrong p q) rs) = BothWrong p q
first_narrow (more_narrow {qs = qs} (TooBig p o) rs) = TooBig p (first_not_yes (o ∷ qs))

pub invariant_narrow : (w : Width) (job : Job) (s : State) → Narrow w (invariant w job s) (invariant None job s)
invariant_narrow w job s =
    first_narrow (each_narrow (λ e. val w e.1 no_scope s s) (λ e. val None e.1 no_scope s s) (λ e. value_alone w e.1 s s) job.invs)

-- ---- executions

pub yes_narrow : {w : Width} → {o q : Outcome} → Narrow w o q → IsYes o → IsYes q
yes_narrow (SameValue v) h = h
yes_narrow (BothWrong p q) h = h
yes_narrow (TooBig p o) h = absurd (false≢true h)

steps_narrow : (w : Width) (job : Job) (s : State) (ss : List State) → AreSteps w job s ss → AreSteps None job s ss
steps_narrow w job s [] h = tt
steps_narrow w job s (t ∷ ts) h = (
  record { state = h.0.state; keeps = h.0.keeps; steps = yes_narrow (next_narrow w job s t) h.0.steps },
  steps_narrow w job t ts h.1,
)

-- an execution under a width is one
pub execution_narrow : (w : Width) (job : Job) (ss : List State) → IsExecution w job ss → IsExecution None job ss
execution_narrow w job [] h = h
execution_narrow w job (s ∷ ss) h = (h.0, yes_narrow (start_narrow w job s) h.1, steps_narrow w job s ss h.2)
