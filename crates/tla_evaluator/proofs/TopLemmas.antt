-- What a whole job's parts give, by the effects and outcomes of its expanded trees.
use Rattle.std.specs.Prelude.{IfOk, IfSome, option_copied, unwrap_or}
use Rattle.std.proofs.Common.{Bor, Option, None, Result, Ok, Err, ◌≡◌, ℕ, Bool, true, false, not, IsTrue, List, [], ◌∷◌, Some, ◌+◌, ◌<◌, drop, get_or, length, map, take, refl, ap, ◌∙◌, sym, subst}
use Rattle.tla_evaluator.proofs.Words.{All, All-more, Assignable, Big, Constants, Denotation, Effect, Expr, IsNormalOutcome, IsYes, Normal, Outcome, PrimedVariables, State, Val, Value, Variables, Wrong, act, both_unit, constants, effect_of, effects_and, false≢true, first_not_yes, get_or_default, in_cinit, in_init, is_yes, meaning, next, no_scope, outcome_of, scope_of, start, val}
use Rattle.tla_meaning.specs.declared.job.Env.{Env}
use Rattle.tla_meaning.specs.declared.job.Job.{Job}
use Rattle.tla_evaluator.specs.inner.Effects.{behind}
use Rattle.tla_evaluator.specs.Trees.{AreNormal, effect_at, is_expanded, value_at}
use Rattle.tla_evaluator.proofs.ActionNodes.{and_holds, and_stops, is_not, not_not}
use Rattle.tla_evaluator.proofs.EvalSteps.{map_next}
use Rattle.tla_evaluator.proofs.ExpandedLaws.{expanded_is, value_normal}

-- ---- one tree

pub act_is : (w : ℕ) (m : Assignable) (e : Expr) (s t : State) → IsTrue (is_expanded e) →
    outcome_of (effect_at w m e [] s t) ≡ act (Some w) m e no_scope s t
act_is w m e s t h = ap (λ (a : Denotation). outcome_of (a.act m s t)) (expanded_is (Some w) e h no_scope)

pub val_is : (w : ℕ) (e : Expr) (s t : State) → IsTrue (is_expanded e) → value_at w e [] s t ≡ val (Some w) e no_scope s t
val_is w e s t h = ap (λ (a : Denotation). a.value s t) (expanded_is (Some w) e h no_scope)

pub eval_is : (w : ℕ) (e : Expr) (env : Env) (vars : List (List ℕ × Value)) (s t u : State) → vars ≡ env.vals → u ≡ t → IsTrue (is_expanded e) →
    value_at w e vars s t ≡ val (Some w) e (scope_of env) s u
eval_is w e env vars s t u same next h =
    ap (λ vs. value_at w e vs s t) same
    ∙ ap (λ (a : Denotation). a.value s t) (expanded_is (Some w) e h (scope_of env))
    ∙ ap (λ n. val (Some w) e (scope_of env) s n) (sym next)

-- the outcome of an evaluation is normal
pub answer_normal : {E : Type 0} (r : Result Outcome E) (w : ℕ) (e : Expr) (vars : List (List ℕ × Value)) (s t : State) → AreNormal vars s t →
    IfOk r (λ o. o ≡ value_at w e vars s t) → IfOk r IsNormalOutcome
answer_normal (Err x) w e vars s t ok h = tt
answer_normal (Ok o) w e vars s t ok h = as_clause o (subst IsNormalOutcome (sym h) (value_normal w e vars s t ok))
  where
    as_clause : (o : Outcome) → IsNormalOutcome o → IsNormalOutcome o
    as_clause (Val v) k = k
    as_clause (Wrong p) k = tt
    as_clause (Big p) k = tt

effect_is : (w : ℕ) (m n : Assignable) (e : Expr) (s t : State) → IsTrue (is_expanded e) → m ≡ n →
    (meaning (Some w) e no_scope).act n s t ≡ effect_at w m e [] s t
effect_is w m n e s t h same =
    sym (ap (λ (a : Denotation). a.act m s t) (expanded_is (Some w) e h no_scope) ∙ ap (λ k. (meaning (Some w) e no_scope).act k s t) same)

pub next_is : (w : ℕ) (n : ℕ) (job : Job) (s t : State) → n ≡ constants job → IsTrue (is_expanded job.next) →
    outcome_of (effect_at w (PrimedVariables n) job.next [] s t) ≡ next (Some w) job s t
next_is w n job s t is h =
    ap (λ k. outcome_of (effect_at w (PrimedVariables k) job.next [] s t)) is ∙ act_is w (PrimedVariables (constants job)) job.next s t h

-- ---- the start

and_one : (f : Effect) → effects_and (f ∷ []) ≡ f
and_one f = go f.holds refl
  where
    go : (b : Bool) → f.holds ≡ b → effects_and (f ∷ []) ≡ f
    go true e = and_holds f [] e ∙ (λ i. record { holds = sym e i; fault = both_unit f.fault i })
    go false e = and_stops f [] e

module _ (w : ℕ) (s : State) (job : Job) (n : ℕ) where
  abbrev pub first : Effect
  first = effect_at w (Constants n) job.cinit [] s s

  abbrev pub second : Effect
  second = effect_of (value_at w job.assume [] s s)

  abbrev pub third : Effect
  third = effect_at w (Variables n) job.init [] s s

  module _ (is : n ≡ constants job) (c : IsTrue (is_expanded job.cinit)) (a : IsTrue (is_expanded job.assume)) (i : IsTrue (is_expanded job.init)) where
    start_from : (f g r : Effect) → f ≡ first → g ≡ second → r ≡ third → outcome_of (effects_and (f ∷ g ∷ r ∷ [])) ≡ start (Some w) job s
    start_from f g r ef eg er =
        let one = effect_is w (Constants n) (in_cinit job) job.cinit s s c (ap (λ k. (Constants k)) is) in
        let two = ap effect_of (val_is w job.assume s s a) in
        let last = effect_is w (Variables n) (in_init job) job.init s s i (ap (λ k. (Variables k)) is) in
        λ j. outcome_of (effects_and ((ef ∙ sym one) j ∷ (eg ∙ two) j ∷ (er ∙ sym last) j ∷ []))

    -- CInit does not hold
    pub stops_first : (f : Effect) → f ≡ first → not f.holds ≡ true → outcome_of f ≡ start (Some w) job s
    stops_first f e off = ap outcome_of (sym (and_stops f (second ∷ third ∷ []) (is_not f.holds off))) ∙ start_from f second third e refl refl

    -- an assumption does not hold
    pub stops_second : (f g : Effect) → f ≡ first → not f.holds ≡ false → g ≡ second → not g.holds ≡ true → outcome_of (behind f.fault g) ≡ start (Some w) job s
    stops_second f g e on k off =
        ap outcome_of (sym (and_holds f (g ∷ third ∷ []) (not_not f.holds on) ∙ ap (behind f.fault) (and_stops g (third ∷ []) (is_not g.holds off)))) ∙ start_from f g third e k refl

    -- all goes on up to Init
    pub goes_on : (f g r : Effect) → f ≡ first → not f.holds ≡ false → g ≡ second → not g.holds ≡ false → r ≡ third →
        outcome_of (behind f.fault (behind g.fault r)) ≡ start (Some w) job s
    goes_on f g r e on k also l =
        ap outcome_of (sym (and_holds f (g ∷ r ∷ []) (not_not f.holds on) ∙ ap (behind f.fault) (and_holds g (r ∷ []) (not_not g.holds also) ∙ ap (behind g.fault) (and_one r))))
        ∙ start_from f g r e k l

-- ---- invariants

module _ (w : ℕ) (s : State) (invs : List (List ℕ × Expr)) where
  abbrev at : List ℕ × Expr → Outcome
  at e = val (Some w) e.1 no_scope s s

  module _ (xs : List (List ℕ × Expr)) (same : xs ≡ invs) (i : ℕ) (x : List ℕ × Expr) (o : Outcome) (among : i < length xs) (item : x ≡ get_or xs i x)
      (e : o ≡ value_at w x.1 [] s s) (expanded : All (λ e. IsTrue (is_expanded e.1)) invs) where
    lt : i < length invs
    lt = subst (λ ys. i < length ys) same among

    is : x ≡ get_or invs i x
    is = item ∙ ap (λ ys. get_or ys i x) same

    outcome_is : o ≡ at x
    outcome_is = e ∙ val_is w x.1 s s (subst (λ (y : List ℕ × Expr). IsTrue (is_expanded y.1)) (sym is) (expanded i x lt))

    from_here : map at (drop i invs) ≡ o ∷ map at (drop (i + 1) invs)
    from_here = map_next at invs i x o lt is outcome_is

    pub yes_before : is_yes o ≡ true → All (λ e. IsYes (at e)) (take i invs) → All (λ e. IsYes (at e)) (take (i + 1) invs)
    yes_before h k =
        All-more (λ e. IsYes (at e)) invs i x lt k (ap (λ y. is_yes (at y)) (sym is) ∙ ap is_yes (sym outcome_is) ∙ h)

    pub yes_same : (all : Outcome) → is_yes o ≡ true → first_not_yes (map at (drop i invs)) ≡ all → first_not_yes (map at (drop (i + 1) invs)) ≡ all
    yes_same all h k =
        sym (ap first_not_yes from_here ∙ ap (λ (b : Bool). elim b as (λ _. Outcome) [ true ↦ first_not_yes (map at (drop (i + 1) invs)) | false ↦ o ]) h) ∙ k

    pub no_here : (all : Outcome) → is_yes o ≡ false → first_not_yes (map at (drop i invs)) ≡ all → o ≡ all
    no_here all h k =
        sym (ap first_not_yes from_here ∙ ap (λ (b : Bool). elim b as (λ _. Outcome) [ true ↦ first_not_yes (map at (drop (i + 1) invs)) | false ↦ o ]) h) ∙ k

    pub no_at : is_yes o ≡ false → (d : List ℕ × Expr) → i < length invs → (o ≡ at (get_or invs i d)) × (IsYes o → ⊥)
    no_at h d lt' = (outcome_is ∙ ap at (is ∙ get_or_default invs i x d lt), λ yes. absurd (false≢true (sym h ∙ yes)))

-- ---- the next state, where there is one

pub next_or : (o : Option (Bor State)) (d : Bor State) → (unwrap_or o d).now ≡ unwrap_or (option_copied o) d.now
next_or None d = refl
next_or (Some n) d = refl

pub next_normal : (o : Option (Bor State)) (d : Bor State) → IfSome o (λ n. All Normal n.now.vals) → All Normal d.now.vals → All Normal (unwrap_or o d).now.vals
next_normal None d h k = k
next_normal (Some n) d h k = h
