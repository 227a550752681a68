-- The outcomes of trees and jobs whose nodes have their places in the first files.
use Rattle.std.proofs.Common.{◌≡◌, ℕ, Bool, true, false, ◌&&◌, IsTrue, List, [], ◌∷◌, ◌++◌, map, subst}
use Rattle.std.specs.Prelude.{nat_lt}
use Rattle.std.specs.List.{list_all}
use Rattle.tla_meaning.specs.declared.actions.Assignable.{Assignable}
use Rattle.tla_meaning.specs.declared.actions.Effect.{Effect}
use Rattle.tla_meaning.specs.declared.expr.Expr.{Expr}
use Rattle.tla_meaning.specs.declared.job.Env.{Env}
use Rattle.tla_meaning.specs.declared.job.Job.{Job}
use Rattle.tla_meaning.specs.declared.job.State.{State}
use Rattle.tla_meaning.specs.declared.place.Place.{Place}
use Rattle.tla_meaning.specs.declared.outcome.Outcome.{Outcome}
use Rattle.tla_meaning.specs.declared.outcome.Outcome.TheVariants.{Val, Wrong, Big}
use Rattle.tla_meaning.specs.Numbers.{Width}
use Rattle.tla_meaning.specs.Actions.{act, effect_of, effects_and, meaning, val}
use Rattle.tla_meaning.specs.Executions.{first_not_yes, in_cinit, in_init, in_next, invariant, is_yes, next, no_scope, scope_of, start}
use Rattle.tla_meaning.proofs.Views.{and_left, and_right}
use Rattle.fault_places.specs.Places.{IsPlaced, job_places_below, places_below}
use Rattle.fault_places.proofs.FaultsAt.{EffectAt, EffectsAt, OutcomeAt, OutcomesAt, effect_at, effects_and_at, outcome_at}
use Rattle.fault_places.proofs.TreesAt.{Below, meaning_at}

placed : (n : ℕ) (o : Outcome) → OutcomeAt (Below n) o → IsPlaced n o
placed n (Val v) h = tt
placed n (Wrong p) h = h
placed n (Big p) h = h

-- ---- trees

pub value_placed : (n : ℕ) (w : Width) (e : Expr) (env : Env) (s t : State) → IsTrue (places_below n e) →
    IsPlaced n (val w e (scope_of env) s t)
value_placed n w e env s t h = placed n (val w e (scope_of env) s t) ((meaning_at n w e h (scope_of env) tt).value s t)

pub action_placed : (n : ℕ) (w : Width) (m : Assignable) (e : Expr) (env : Env) (s t : State) →
    IsTrue (places_below n e) →
    IsPlaced n (act w m e (scope_of env) s t)
action_placed n w m e env s t h =
    placed n (act w m e (scope_of env) s t)
    (outcome_at (Below n) ((meaning w e (scope_of env)).act m s t) ((meaning_at n w e h (scope_of env) tt).act m s t))

alone : (n : ℕ) (w : Width) (e : Expr) (s t : State) → IsTrue (places_below n e) →
    OutcomeAt (Below n) (val w e no_scope s t)
alone n w e s t h = (meaning_at n w e h no_scope tt).value s t

part : (n : ℕ) (w : Width) (m : Assignable) (e : Expr) (s t : State) → IsTrue (places_below n e) →
    EffectAt (Below n) ((meaning w e no_scope).act m s t)
part n w m e s t h = (meaning_at n w e h no_scope tt).act m s t

-- ---- jobs

record PlacedJob (n : ℕ) (job : Job) : Type 0 where
  cinit : IsTrue (places_below n job.cinit)
  assume : IsTrue (places_below n job.assume)
  init : IsTrue (places_below n job.init)
  next : IsTrue (places_below n job.next)
  invs : IsTrue (list_all (λ e. places_below n e.1) job.invs)

parts : (n : ℕ) (job : Job) → IsTrue (job_places_below n job) → PlacedJob n job
parts n job h =
    let c : Bool = places_below n job.cinit in
    let a : Bool = places_below n job.assume in
    let i : Bool = places_below n job.init in
    let x : Bool = places_below n job.next in
    let all : Bool = list_all (λ e. places_below n e.1) job.invs in
    let names : Bool = list_all (λ d. nat_lt d.place.file n) job.names in
    let five : IsTrue (c && a && i && x && all) = and_left (c && a && i && x && all) names h in
    let four : IsTrue (c && a && i && x) = and_left (c && a && i && x) all five in
    let three : IsTrue (c && a && i) = and_left (c && a && i) x four in
    let two : IsTrue (c && a) = and_left (c && a) i three in
    record {
      cinit = and_left c a two;
      assume = and_right c a two;
      init = and_right (c && a) i three;
      next = and_right (c && a && i) x four;
      invs = and_right (c && a && i && x) all five;
    }

pub start_placed : (n : ℕ) (w : Width) (job : Job) (s : State) → IsTrue (job_places_below n job) →
    IsPlaced n (start w job s)
start_placed n w job s h =
    let p : PlacedJob n job = parts n job h in
    let es : List Effect =
    (meaning w job.cinit no_scope).act (in_cinit job) s s
    ∷ effect_of (val w job.assume no_scope s s)
    ∷ (meaning w job.init no_scope).act (in_init job) s s
    ∷ [] in
    let each : EffectsAt (Below n) es = (
      part n w (in_cinit job) job.cinit s s p.cinit,
      (
        effect_at (Below n) (val w job.assume no_scope s s) (alone n w job.assume s s p.assume),
        (part n w (in_init job) job.init s s p.init, tt),
      ),
    ) in
    placed n (start w job s) (outcome_at (Below n) (effects_and es) (effects_and_at (Below n) es each))

pub next_placed : (n : ℕ) (w : Width) (job : Job) (s t : State) → IsTrue (job_places_below n job) →
    IsPlaced n (next w job s t)
next_placed n w job s t h =
    placed n (next w job s t)
    (outcome_at (Below n) ((meaning w job.next no_scope).act (in_next job) s t)
    (part n w (in_next job) job.next s t (parts n job h).next))

first_at : (P : Place → Type 0) (os : List Outcome) → OutcomesAt P os → OutcomeAt P (first_not_yes os)
first_at P [] h = tt
first_at P (o ∷ os) h = by_yes (first_not_yes os) (first_at P os h.1) (is_yes o)
  where
    by_yes : (q : Outcome) → OutcomeAt P q → (b : Bool) → OutcomeAt P (elim b [ true ↦ q | false ↦ o ])
    by_yes q k true = k
    by_yes q k false = h.0

invariants_at : (n : ℕ) (w : Width) (s : State) (es : List (List ℕ × Expr)) →
    IsTrue (list_all (λ e. places_below n e.1) es) →
    OutcomesAt (Below n) (map (λ e. val w e.1 no_scope s s) es)
invariants_at n w s [] h = tt
invariants_at n w s (e ∷ es) h =
    let rest : Bool = list_all (λ e. places_below n e.1) es in (
      alone n w e.1 s s (and_left (places_below n e.1) rest h),
      invariants_at n w s es (and_right (places_below n e.1) rest h),
    )

pub invariant_placed : (n : ℕ) (w : Width) (job : Job) (s : State) → IsTrue (job_places_below n job) →
    IsPlaced n (invariant w job s)
invariant_placed n w job s h =
    placed n (invariant w job s)
    (first_at (Below n) (map (λ e. val w e.1 no_scope s s) job.invs)
    (invariants_at n w s job.invs (parts n job h).invs))

one_of : {X : Type 0} (f : X → Bool) (before : List X) (x : X) (behind : List X) →
    IsTrue (list_all f (before ++ x ∷ behind)) → IsTrue (f x)
one_of f [] x behind h = and_left (f x) (list_all f behind) h
one_of f (y ∷ before) x behind h = one_of f before x behind (and_right (f y) (list_all f (before ++ x ∷ behind)) h)

pub each_placed : (n : ℕ) (w : Width) (job : Job) (before behind : List (List ℕ × Expr)) (name : List ℕ) (e : Expr)
    (s t : State) →
    IsTrue (job_places_below n job) → job.invs ≡ before ++ (name, e) ∷ behind → IsPlaced n (val w e no_scope s t)
each_placed n w job before behind name e s t h is =
    let test : List ℕ × Expr → Bool = λ e. places_below n e.1 in
    let all : IsTrue (list_all test (before ++ (name, e) ∷ behind)) =
    subst (λ (es : List (List ℕ × Expr)). IsTrue (list_all test es)) is (parts n job h).invs in
    placed n (val w e no_scope s t) (alone n w e s t (one_of test before (name, e) behind all))
