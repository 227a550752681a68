-- The start, over CInit, the assumption and Init, and a typed start, over CInit, the assumption and the invariants: what their
-- transitions say of the outcome, and where executions begin.
use Rattle.std.proofs.Common.{◌≡◌, ◌⊎◌, ℕ, inl, inr, Bool, List, [], ◌∷◌, map, take, refl, sym, ◌∙◌, ap, subst}
use Rattle.tla_values.specs.declared.value.Value.{Value}
use Rattle.tla_meaning.specs.declared.actions.Effect.{Effect}
use Rattle.tla_meaning.specs.declared.expr.Expr.{Expr}
use Rattle.tla_meaning.specs.declared.job.Job.{Job}
use Rattle.tla_meaning.specs.declared.job.State.{State}
use Rattle.tla_meaning.specs.declared.outcome.Outcome.{Outcome}
use Rattle.tla_meaning.specs.declared.outcome.Outcome.TheVariants.{Val, Wrong, Big}
use Rattle.tla_meaning.specs.Actions.{effect_of, effects_and, meaning, outcome_of, val}
use Rattle.tla_meaning.specs.Executions.{IsState, IsYes, Keeps, constants, in_cinit, in_init, no_scope}
use Rattle.tla_meaning.specs.Numbers.{Width}
use Rattle.kernel_trees.specs.Assignments.{AssignedPath}
use Rattle.level_laws.specs.Branches.{Ending, Held, MetWrong, MetBig, Transition}
use Rattle.level_laws.specs.Chains.{then_ends, then_goes}
use Rattle.level_laws.specs.Levels.{Start}
use Rattle.step_laws.specs.Laws.{StartsAt, StartsBy}
use Rattle.step_laws.specs.Origins.{the_start, typed_start}
use Rattle.step_laws.specs.Outcomes.{EffectBy, OutcomeBy, outcome_ends}
use Rattle.step_laws.specs.PathEnds.{SomeEnds}
use Rattle.step_laws.specs.Rows.{NoStepFault}
use Rattle.step_laws.specs.Transitions.{AssumeGoes, ConstantsGo, HasConstants, HasTyped, StartGoes, TypedGoes, all_end, invariant_outcomes}
use Rattle.step_laws.proofs.Outcomes.{and_by, last_by, outcome_by, outcome_same, whole_by}

-- what is known of CInit and of the assumption: they speak of constants alone, and the paths of CInit say what its effect is
pub record KnowsConstants (w : Width) (job : Job) (xs : List AssignedPath) : Type 0 where
  pub alone : (k : Ending) (s t : State) → IsState job s → IsState job t → Keeps job s t → SomeEnds w xs k s s → SomeEnds w xs k t t
  pub assume : (s t : State) → IsState job s → IsState job t → Keeps job s t → val w job.assume no_scope s s ≡ val w job.assume no_scope t t
  pub cinit : (t : State) → IsState job t → EffectBy (λ k. SomeEnds w xs k t t) ((meaning w job.cinit no_scope).act (in_cinit job) t t)

-- ---- a last part behind CInit and the assumption

module _ (w : Width) (job : Job) (xs : List AssignedPath) (known : KnowsConstants w job xs)
    (Has : List Value → State → Type 0) (has : (cs : List Value) (t : State) → Has cs t → HasConstants job cs t) (N : Ending → State → Type 0) where
  abbrev Last : Transition (List Value) State
  Last k cs t = Has cs t × N k t

  abbrev Goes : Start State
  Goes = then_goes (ConstantsGo w job xs) (then_goes (AssumeGoes w job) Last Has) Has

  -- the parts at a state
  abbrev C : State → Ending → Type 0
  C t k = SomeEnds w xs k t t

  abbrev A : State → Ending → Type 0
  A t k = outcome_ends (val w job.assume no_scope t t) k

  abbrev Parts : State → Ending → Type 0
  Parts t = then_ends (C t) (then_ends (A t) (λ k. N k t))

  constants_at : (k : Ending) (cs : List Value) (t : State) → HasConstants job cs t → ConstantsGo w job xs k tt cs → C t k
  constants_at k cs t h g = known.alone k g.0 t g.1.0.0 h.0 (g.1.0.1 ∙ sym h.1) g.1.1

  assume_at : (k : Ending) (cs ds : List Value) (t : State) → Has ds t → AssumeGoes w job k cs ds → A t k × Has cs t
  assume_at k cs ds t h g =
      let there : Has cs t = subst (λ (es : List Value). Has es t) g.0 h in
      let c = has cs t there in
      (subst (λ (o : Outcome). outcome_ends o k) (known.assume g.1.0 t g.1.1.0.0 c.0 (g.1.1.0.1 ∙ sym c.1)) g.1.1.1, there)

  rest_to : (k : Ending) (cs : List Value) (t : State) → then_goes (AssumeGoes w job) Last Has k cs t → Has cs t × then_ends (A t) (λ k. N k t) k
  rest_to Held cs t g = let a = assume_at Held cs g.0 t g.1.1.0 g.1.0 in (a.1, (a.0, g.1.1.1))
  rest_to MetWrong cs t (inl g) = let a = assume_at MetWrong cs g.0 t g.1.1 g.1.0 in (a.1, inl a.0)
  rest_to MetWrong cs t (inr g) = let a = assume_at Held cs g.0 t g.1.1.0 g.1.0 in (a.1, inr (a.0, g.1.1.1))
  rest_to MetBig cs t (inl g) = let a = assume_at MetBig cs g.0 t g.1.1 g.1.0 in (a.1, inl a.0)
  rest_to MetBig cs t (inr g) = let a = assume_at Held cs g.0 t g.1.1.0 g.1.0 in (a.1, inr (a.0, g.1.1.1))

  goes_to : (k : Ending) (t : State) → Goes k tt t → Parts t k
  goes_to Held t g = let r = rest_to Held g.0 t g.1.1 in (constants_at Held g.0 t (has g.0 t r.0) g.1.0, r.1)
  goes_to MetWrong t (inl g) = inl (constants_at MetWrong g.0 t (has g.0 t g.1.1) g.1.0)
  goes_to MetWrong t (inr g) = let r = rest_to MetWrong g.0 t g.1.1 in inr (constants_at Held g.0 t (has g.0 t r.0) g.1.0, r.1)
  goes_to MetBig t (inl g) = inl (constants_at MetBig g.0 t (has g.0 t g.1.1) g.1.0)
  goes_to MetBig t (inr g) = let r = rest_to MetBig g.0 t g.1.1 in inr (constants_at Held g.0 t (has g.0 t r.0) g.1.0, r.1)

  abbrev own : State → List Value
  own t = take (constants job) t.vals

  rest_from : (k : Ending) (t : State) → Has (own t) t → then_ends (A t) (λ k. N k t) k → then_goes (AssumeGoes w job) Last Has k (own t) t
  rest_from Held t h m = (own t, ((refl, (t, (has (own t) t h, m.0))), (h, m.1)))
  rest_from MetWrong t h (inl m) = inl (own t, ((refl, (t, (has (own t) t h, m))), h))
  rest_from MetWrong t h (inr m) = inr (own t, ((refl, (t, (has (own t) t h, m.0))), (h, m.1)))
  rest_from MetBig t h (inl m) = inl (own t, ((refl, (t, (has (own t) t h, m))), h))
  rest_from MetBig t h (inr m) = inr (own t, ((refl, (t, (has (own t) t h, m.0))), (h, m.1)))

  goes_from : (k : Ending) (t : State) → Has (own t) t → Parts t k → Goes k tt t
  goes_from Held t h m = (own t, ((t, (has (own t) t h, m.0)), rest_from Held t h m.1))
  goes_from MetWrong t h (inl m) = inl (own t, ((t, (has (own t) t h, m)), h))
  goes_from MetWrong t h (inr m) = inr (own t, ((t, (has (own t) t h, m.0)), rest_from MetWrong t h m.1))
  goes_from MetBig t h (inl m) = inl (own t, ((t, (has (own t) t h, m)), h))
  goes_from MetBig t h (inr m) = inr (own t, ((t, (has (own t) t h, m.0)), rest_from MetBig t h m.1))

  -- the state has constants
  goes_has : (k : Ending) (t : State) → Goes k tt t → (cs : List Value) × Has cs t
  goes_has Held t g = (g.0, (rest_to Held g.0 t g.1.1).0)
  goes_has MetWrong t (inl g) = (g.0, g.1.1)
  goes_has MetWrong t (inr g) = (g.0, (rest_to MetWrong g.0 t g.1.1).0)
  goes_has MetBig t (inl g) = (g.0, g.1.1)
  goes_has MetBig t (inr g) = (g.0, (rest_to MetBig g.0 t g.1.1).0)

  -- what the transition says of the conjunction, of which each part is asked only where those before it hold
  goes_by : (t : State) → Has (own t) t → (es : List Effect) → (C t Held → A t Held → EffectBy (λ k. N k t) (effects_and es)) →
      OutcomeBy (λ k. Goes k tt t)
      (outcome_of (effects_and ((meaning w job.cinit no_scope).act (in_cinit job) t t ∷ effect_of (val w job.assume no_scope t t) ∷ es)))
  goes_by t h es n =
      let c = (meaning w job.cinit no_scope).act (in_cinit job) t t in
      let a = effect_of (val w job.assume no_scope t t) in
      outcome_same (λ k m. goes_from k t h m) (λ k g. goes_to k t g)
      (outcome_by (effects_and (c ∷ a ∷ es))
      (and_by c (a ∷ es) (known.cinit t (has (own t) t h).0) (λ x. and_by a es (whole_by (val w job.assume no_scope t t)) (λ y. n x y))))

-- ---- the start of a job

-- what is known of Init: where CInit and the assumption hold, its paths say what its effect is
abbrev pub KnowsInit : Width → Job → List AssignedPath → List AssignedPath → Type 0
KnowsInit w job xs ys =
    (t : State) → IsState job t → SomeEnds w xs Held t t → IsYes (val w job.assume no_scope t t) →
    EffectBy (λ k. SomeEnds w ys k t t) ((meaning w job.init no_scope).act (in_init job) t t)

pub start_by : (w : Width) (job : Job) (xs ys : List AssignedPath) → KnowsConstants w job xs → KnowsInit w job xs ys → StartsBy (the_start w job) (StartGoes w job xs ys)
start_by w job xs ys known init = record {
  counts = λ k s g. (goes_has w job xs known (HasConstants job) (λ cs t h. h) (λ k t. SomeEnds w ys k t t) k s g).1.0;
  law = λ s st.
      let e = (meaning w job.init no_scope).act (in_init job) s s in
      goes_by w job xs known (HasConstants job) (λ cs t h. h) (λ k t. SomeEnds w ys k t t) s (st, refl) (e ∷ []) (λ c a. last_by e (init s st c a));
}

-- ---- a typed start

-- invariants that are taken as a whole, one behind the other
all_by : (os : List Outcome) → EffectBy (all_end os) (effects_and (map effect_of os))
all_by [] = ends_none
  where
    ends_none : EffectBy (all_end []) (effects_and [])
    ends_none = record { goes = (λ h. tt, λ h. refl); is_wrong = (λ h. h, λ h. h); is_big = (λ h. absurd h, λ h. h.0) }
all_by (o ∷ os) = by (and_by (effect_of o) (map effect_of os) (whole_by o) (λ y. all_by os))
  where
    to : (k : Ending) → then_ends (outcome_ends o) (all_end os) k → all_end (o ∷ os) k
    to k m = m

    by : EffectBy (then_ends (outcome_ends o) (all_end os)) (effects_and (effect_of o ∷ map effect_of os)) → EffectBy (all_end (o ∷ os)) (effects_and (map effect_of (o ∷ os)))
    by h = record { goes = h.goes; is_wrong = h.is_wrong; is_big = h.is_big }

invariant_effects : (w : Width) (job : Job) (t : State) → map effect_of (invariant_outcomes w job t) ≡ map (λ e. effect_of (val w e.1 no_scope t t)) job.invs
invariant_effects w job t = by job.invs
  where
    by : (es : List (List ℕ × Expr)) → map effect_of (map (λ e. val w e.1 no_scope t t) es) ≡ map (λ e. effect_of (val w e.1 no_scope t t)) es
    by [] = refl
    by (e ∷ es) = ap (λ (l : List Effect). effect_of (val w e.1 no_scope t t) ∷ l) (by es)

pub typed_by : (within : State → Bool) (w : Width) (job : Job) (xs : List AssignedPath) → KnowsConstants w job xs → StartsBy (typed_start within w job) (TypedGoes within w job xs)
typed_by within w job xs known = record {
  counts = λ k s g. let h = goes_has w job xs known (HasTyped within job) (λ cs t h. h.0) (λ k t. all_end (invariant_outcomes w job t) k) k s g in (h.1.0.0, h.1.1);
  law = λ s st.
      goes_by w job xs known (HasTyped within job) (λ cs t h. h.0) (λ k t. all_end (invariant_outcomes w job t) k) s ((st.0, refl), st.1)
      (map (λ e. effect_of (val w e.1 no_scope s s)) job.invs)
      (λ c a. subst (λ (es : List Effect). EffectBy (all_end (invariant_outcomes w job s)) (effects_and es)) (invariant_effects w job s) (all_by (invariant_outcomes w job s)));
}

-- ---- where CInit has no fault, executions begin where typed runs do

-- at most one ending
abbrev Exclusive : (Ending → Type 0) → Type 0
Exclusive M = (M Held → M MetWrong → ⊥) × ((M Held → M MetBig → ⊥) × (M MetWrong → M MetBig → ⊥))

outcome_exclusive : (o : Outcome) → Exclusive (outcome_ends o)
outcome_exclusive (Val v) = ((λ h m. m), ((λ h m. m), (λ h m. m)))
outcome_exclusive (Wrong p) = ((λ h m. cc), ((λ h m. m), (λ h m. m)))
outcome_exclusive (Big p) = ((λ h m. m), ((λ h m. cc), (λ h m. h)))

then_exclusive : (M N : Ending → Type 0) → Exclusive M → Exclusive N → Exclusive (then_ends M N)
then_exclusive M N m n = (held_wrong, (held_big, wrong_big))
  where
    held_wrong : M Held × N Held → M MetWrong ⊎ (M Held × N MetWrong) → ⊥
    held_wrong h (inl x) = m.0 h.0 x
    held_wrong h (inr x) = n.0 h.1 x.1

    held_big : M Held × N Held → M MetBig ⊎ (M Held × N MetBig) → ⊥
    held_big h (inl x) = m.1.0 h.0 x
    held_big h (inr x) = n.1.0 h.1 x.1

    wrong_big : M MetWrong ⊎ (M Held × N MetWrong) → M MetBig ⊎ (M Held × N MetBig) → ⊥
    wrong_big (inl x) (inl y) = m.1.1 x y
    wrong_big (inl x) (inr y) = m.0 y.0 x
    wrong_big (inr x) (inl y) = m.1.0 x.0 y
    wrong_big (inr x) (inr y) = n.1.1 x.1 y.1

all_exclusive : (os : List Outcome) → Exclusive (all_end os)
all_exclusive [] = ((λ h m. m), ((λ h m. m), (λ h m. m)))
all_exclusive (o ∷ os) =
    let e = then_exclusive (outcome_ends o) (all_end os) (outcome_exclusive o) (all_exclusive os) in (e.0, (e.1.0, e.1.1))

module _ (within : State → Bool) (w : Width) (job : Job) (xs ys : List AssignedPath) (known : KnowsConstants w job xs) (init : KnowsInit w job xs ys)
    (none : NoStepFault w job (the_start w job) 0) where
  from : (k : Ending) (t : State) → IsState job t →
      then_ends (λ k. SomeEnds w xs k t t) (then_ends (outcome_ends (val w job.assume no_scope t t)) (λ k. SomeEnds w ys k t t)) k → StartGoes w job xs ys k tt t
  from k t st = goes_from w job xs known (HasConstants job) (λ cs t h. h) (λ k t. SomeEnds w ys k t t) k t (st, refl)

  no_wrong : (t : State) → IsState job t → SomeEnds w xs MetWrong t t → ⊥
  no_wrong t st m = none.0 [] t (refl, (st, ((start_by w job xs ys known init).law t st).is_wrong.1 (from MetWrong t st (inl m))))

  no_big : (t : State) → IsState job t → SomeEnds w xs MetBig t t → ⊥
  no_big t st m =
      let law = (start_by w job xs ys known init).law t st in
      none.1 [] t (refl, (st, law.is_big.1 (from MetBig t st (inl m), λ x. none.0 [] t (refl, (st, law.is_wrong.1 x)))))

  -- the parts of a typed start, of which CInit has no fault
  abbrev Rest : State → Ending → Type 0
  Rest t = then_ends (outcome_ends (val w job.assume no_scope t t)) (all_end (invariant_outcomes w job t))

  rest_exclusive : (t : State) → Exclusive (Rest t)
  rest_exclusive t =
      then_exclusive (outcome_ends (val w job.assume no_scope t t)) (all_end (invariant_outcomes w job t)) (outcome_exclusive (val w job.assume no_scope t t))
      (all_exclusive (invariant_outcomes w job t))

  abbrev Parted : State → Ending → Type 0
  Parted t k = then_ends (λ k. SomeEnds w xs k t t) (Rest t) k

  parts : (k : Ending) (t : State) → TypedGoes within w job xs k tt t → Parted t k
  parts k t g = goes_to w job xs known (HasTyped within job) (λ cs t h. h.0) (λ k t. all_end (invariant_outcomes w job t) k) k t g

  rest : (k : Ending) (t : State) → IsState job t → Parted t k → Rest t k
  rest Held t st m = m.1
  rest MetWrong t st (inl m) = absurd (no_wrong t st m)
  rest MetWrong t st (inr m) = m.1
  rest MetBig t st (inl m) = absurd (no_big t st m)
  rest MetBig t st (inr m) = m.1

  abbrev typed : StartsBy (typed_start within w job) (TypedGoes within w job xs)
  typed = typed_by within w job xs known

  there : (k : Ending) (t : State) → TypedGoes within w job xs k tt t → Rest t k
  there k t g = rest k t (typed.counts k t g).0 (parts k t g)

  -- Wrong and Big exclude each other
  pub typed_apart : (t : State) → TypedGoes within w job xs MetBig tt t → TypedGoes within w job xs MetWrong tt t → ⊥
  typed_apart t b m = (rest_exclusive t).1.1 (there MetWrong t m) (there MetBig t b)

  pub typed_starts_at : StartsAt (typed_start within w job) (TypedGoes within w job xs)
  typed_starts_at = record {
    up = λ s h. (typed.law s h.0).yes h.1;
    down = λ s g.
        let h = there Held s g in
        let st = typed.counts Held s g in
        (st, (typed.law s st).is_yes g (λ m. (rest_exclusive s).0 h (there MetWrong s m)) (λ m. (rest_exclusive s).1.0 h (there MetBig s m)));
  }
