-- Effects and outcomes by the ends of paths: a conjunction goes on where its first part holds.
use Rattle.std.proofs.Common.{◌≡◌, ◌⊎◌, inl, inr, ◌↔◌, Bool, true, false, List, [], ◌∷◌, refl, sym, ◌∙◌, ap}
use Rattle.tla_values.specs.declared.value.Value.TheVariants as value
use Rattle.tla_meaning.specs.declared.actions.Effect.{Effect}
use Rattle.tla_meaning.specs.declared.outcome.Outcome.{Outcome}
use Rattle.tla_meaning.specs.declared.outcome.Outcome.TheVariants.{Val, Wrong, Big}
use Rattle.tla_meaning.specs.declared.outcome.Fault.{Fault}
use Rattle.tla_meaning.specs.declared.outcome.Fault.TheVariants.{NoFault, IsWrong, IsBig}
use Rattle.tla_meaning.specs.Outcomes.{join_faults, fault_or}
use Rattle.tla_meaning.specs.Operators.{yes_no}
use Rattle.tla_meaning.specs.Actions.{is_true, effect_of, effects_and, outcome_of}
use Rattle.tla_meaning.specs.Executions.{IsYes, IsWrongOutcome}
use Rattle.tla_meaning.specs.Questions.{IsBigOutcome}
use Rattle.level_laws.specs.Branches.{Ending, Held, MetWrong, MetBig}
use Rattle.level_laws.specs.Chains.{then_ends}
use Rattle.step_laws.specs.Outcomes.{EffectBy, IsBigFault, IsWrongFault, OutcomeBy, outcome_ends}

-- ---- faults

joined_wrong : (f g : Fault) → IsWrongFault (join_faults f g) ↔ (IsWrongFault f ⊎ IsWrongFault g)
joined_wrong f g = (to f g, from f g)
  where
    to : (f g : Fault) → IsWrongFault (join_faults f g) → IsWrongFault f ⊎ IsWrongFault g
    to NoFault g h = inr h
    to (IsWrong p) g h = inl tt
    to (IsBig p) NoFault h = absurd h
    to (IsBig p) (IsWrong q) h = inr tt
    to (IsBig p) (IsBig q) h = absurd h

    from : (f g : Fault) → IsWrongFault f ⊎ IsWrongFault g → IsWrongFault (join_faults f g)
    from NoFault g (inl h) = absurd h
    from NoFault g (inr h) = h
    from (IsWrong p) NoFault h = tt
    from (IsWrong p) (IsWrong q) h = tt
    from (IsWrong p) (IsBig q) h = tt
    from (IsBig p) NoFault (inl h) = absurd h
    from (IsBig p) NoFault (inr h) = absurd h
    from (IsBig p) (IsWrong q) h = tt
    from (IsBig p) (IsBig q) (inl h) = absurd h
    from (IsBig p) (IsBig q) (inr h) = absurd h

joined_big : (f g : Fault) → IsBigFault (join_faults f g) ↔ ((IsBigFault f ⊎ IsBigFault g) × ((IsWrongFault f → ⊥) × (IsWrongFault g → ⊥)))
joined_big f g = (to f g, from f g)
  where
    to : (f g : Fault) → IsBigFault (join_faults f g) → (IsBigFault f ⊎ IsBigFault g) × ((IsWrongFault f → ⊥) × (IsWrongFault g → ⊥))
    to NoFault NoFault h = absurd h
    to NoFault (IsWrong q) h = absurd h
    to NoFault (IsBig q) h = (inr tt, ((λ x. x), (λ x. x)))
    to (IsWrong p) NoFault h = absurd h
    to (IsWrong p) (IsWrong q) h = absurd h
    to (IsWrong p) (IsBig q) h = absurd h
    to (IsBig p) NoFault h = (inl tt, ((λ x. x), (λ x. x)))
    to (IsBig p) (IsWrong q) h = absurd h
    to (IsBig p) (IsBig q) h = (inl tt, ((λ x. x), (λ x. x)))

    from : (f g : Fault) → (IsBigFault f ⊎ IsBigFault g) × ((IsWrongFault f → ⊥) × (IsWrongFault g → ⊥)) → IsBigFault (join_faults f g)
    from NoFault NoFault h = by h.0
      where
        by : (⊥ ⊎ ⊥) → ⊥
        by (inl x) = x
        by (inr x) = x
    from NoFault (IsWrong q) h = absurd (h.1.1 tt)
    from NoFault (IsBig q) h = tt
    from (IsWrong p) g h = absurd (h.1.0 tt)
    from (IsBig p) NoFault h = tt
    from (IsBig p) (IsWrong q) h = absurd (h.1.1 tt)
    from (IsBig p) (IsBig q) h = tt

-- ---- what is said may be said otherwise

pub effect_same : {M N : Ending → Type 0} {e : Effect} → ((k : Ending) → M k → N k) → ((k : Ending) → N k → M k) → EffectBy M e → EffectBy N e
effect_same to from h = record {
  goes = (λ y. to Held (h.goes.0 y), λ m. h.goes.1 (from Held m));
  is_wrong = (λ y. to MetWrong (h.is_wrong.0 y), λ m. h.is_wrong.1 (from MetWrong m));
  is_big = (λ y. let u = h.is_big.0 y in (to MetBig u.0, λ m. u.1 (from MetWrong m)), λ m. h.is_big.1 (from MetBig m.0, λ x. m.1 (to MetWrong x)));
}

pub outcome_same : {M N : Ending → Type 0} {o : Outcome} → ((k : Ending) → M k → N k) → ((k : Ending) → N k → M k) → OutcomeBy M o → OutcomeBy N o
outcome_same to from h = record {
  yes = λ y. to Held (h.yes y);
  is_yes = λ m nw nb. h.is_yes (from Held m) (λ x. nw (to MetWrong x)) (λ x. nb (to MetBig x));
  is_wrong = (λ y. to MetWrong (h.is_wrong.0 y), λ m. h.is_wrong.1 (from MetWrong m));
  is_big = (λ y. let u = h.is_big.0 y in (to MetBig u.0, λ m. u.1 (from MetWrong m)), λ m. h.is_big.1 (from MetBig m.0, λ x. m.1 (to MetWrong x)));
}

-- ---- conjunctions

-- one part more in front: the rest is asked only where the first part holds
pub and_by : {M N : Ending → Type 0} (e : Effect) (es : List Effect) → EffectBy M e → (M Held → EffectBy N (effects_and es)) → EffectBy (then_ends M N) (effects_and (e ∷ es))
and_by {M = M} {N = N} e es m n = by e.holds refl
  where
    rest : Effect
    rest = effects_and es

    step : Bool → Effect
    step b = elim b [ true ↦ record { holds = rest.holds; fault = join_faults e.fault rest.fault } | false ↦ e ]

    by : (b : Bool) → e.holds ≡ b → EffectBy (then_ends M N) (step b)
    by true q =
        let h : M Held = m.goes.0 q in
        let r : EffectBy N rest = n h in
        record {
          goes = (λ x. (h, r.goes.0 x), λ y. r.goes.1 y.1);
          is_wrong = (
            λ x. wrong_to h r ((joined_wrong e.fault rest.fault).0 x),
            λ y. (joined_wrong e.fault rest.fault).1 (wrong_from r y),
          );
          is_big = (
            λ x. let u = (joined_big e.fault rest.fault).0 x in (big_to h r u.0, λ y. no_wrong r u.1.0 u.1.1 y),
            λ y.
                (joined_big e.fault rest.fault).1
                (big_from r y.0 (λ z. y.1 (inl z)) (λ z. y.1 (inr (h, z))), ((λ z. y.1 (inl (m.is_wrong.0 z))), (λ z. y.1 (inr (h, r.is_wrong.0 z))))),
          );
        }
      where
        wrong_to : M Held → EffectBy N rest → IsWrongFault e.fault ⊎ IsWrongFault rest.fault → M MetWrong ⊎ (M Held × N MetWrong)
        wrong_to h r (inl x) = inl (m.is_wrong.0 x)
        wrong_to h r (inr x) = inr (h, r.is_wrong.0 x)

        wrong_from : EffectBy N rest → M MetWrong ⊎ (M Held × N MetWrong) → IsWrongFault e.fault ⊎ IsWrongFault rest.fault
        wrong_from r (inl x) = inl (m.is_wrong.1 x)
        wrong_from r (inr x) = inr (r.is_wrong.1 x.1)

        big_to : M Held → EffectBy N rest → IsBigFault e.fault ⊎ IsBigFault rest.fault → M MetBig ⊎ (M Held × N MetBig)
        big_to h r (inl x) = inl (m.is_big.0 x).0
        big_to h r (inr x) = inr (h, (r.is_big.0 x).0)

        no_wrong : EffectBy N rest → (IsWrongFault e.fault → ⊥) → (IsWrongFault rest.fault → ⊥) → M MetWrong ⊎ (M Held × N MetWrong) → ⊥
        no_wrong r a b (inl x) = a (m.is_wrong.1 x)
        no_wrong r a b (inr x) = b (r.is_wrong.1 x.1)

        big_from : EffectBy N rest → M MetBig ⊎ (M Held × N MetBig) → (M MetWrong → ⊥) → (N MetWrong → ⊥) → IsBigFault e.fault ⊎ IsBigFault rest.fault
        big_from r (inl x) a b = inl (m.is_big.1 (x, a))
        big_from r (inr x) a b = inr (r.is_big.1 (x.1, b))
    by false q = record {
      goes = (λ x. absurd (no (sym q ∙ x)), λ y. absurd (no (sym q ∙ m.goes.1 y.0)));
      is_wrong = (λ x. inl (m.is_wrong.0 x), λ y. m.is_wrong.1 (only y));
      is_big = (λ x. let u = m.is_big.0 x in (inl u.0, λ y. u.1 (only y)), λ y. big_first y.0 (λ z. y.1 (inl z)));
    }
      where
        no : false ≡ true → ⊥
        no e = cc

        only : M MetWrong ⊎ (M Held × N MetWrong) → M MetWrong
        only (inl x) = x
        only (inr x) = absurd (no (sym q ∙ m.goes.1 x.0))

        big_first : M MetBig ⊎ (M Held × N MetBig) → (M MetWrong → ⊥) → IsBigFault e.fault
        big_first (inl x) a = m.is_big.1 (x, a)
        big_first (inr x) a = absurd (no (sym q ∙ m.goes.1 x.0))

-- nothing more
abbrev pub no_more : Ending → Type 0
no_more Held = Unit {0}
no_more MetWrong = ⊥
no_more MetBig = ⊥

pub none_by : EffectBy no_more (effects_and [])
none_by = record { goes = (λ h. tt, λ h. refl); is_wrong = (λ h. h, λ h. h); is_big = (λ h. absurd h, λ h. h.0) }

-- a last part
pub last_by : {N : Ending → Type 0} (e : Effect) → EffectBy N e → EffectBy N (effects_and (e ∷ []))
last_by {N = N} e n = effect_same to from (and_by e [] n (λ h. none_by))
  where
    to : (k : Ending) → then_ends N no_more k → N k
    to Held h = h.0
    to MetWrong (inl h) = h
    to MetWrong (inr h) = absurd h.1
    to MetBig (inl h) = h
    to MetBig (inr h) = absurd h.1

    from : (k : Ending) → N k → then_ends N no_more k
    from Held h = (h, tt)
    from MetWrong h = inl h
    from MetBig h = inl h

-- an expression that is taken as a whole
pub whole_by : (o : Outcome) → EffectBy (outcome_ends o) (effect_of o)
whole_by (Val v) = record { goes = (λ h. h, λ h. h); is_wrong = (λ h. h, λ h. h); is_big = (λ h. absurd h, λ h. h.0) }
whole_by (Wrong p) = record { goes = (λ h. cc, λ h. cc); is_wrong = (λ h. h, λ h. h); is_big = (λ h. absurd h, λ h. h.0) }
whole_by (Big p) = record { goes = (λ h. cc, λ h. cc); is_wrong = (λ h. h, λ h. h); is_big = (λ h. (tt, λ x. x), λ h. tt) }

-- ---- an effect's outcome

pub outcome_by : {M : Ending → Type 0} (e : Effect) → EffectBy M e → OutcomeBy M (outcome_of e)
outcome_by {M = M} e m = record {
  yes = λ y. m.goes.0 (yes_when e.holds e.fault y);
  is_yes = λ h nw nb. when_yes e.holds e.fault (m.goes.1 h) (λ x. nw (m.is_wrong.0 x)) (λ x. nb (m.is_big.0 x).0);
  is_wrong = (λ y. m.is_wrong.0 ((wrong_when e.fault e.holds).0 y), λ x. (wrong_when e.fault e.holds).1 (m.is_wrong.1 x));
  is_big = (λ y. m.is_big.0 ((big_when e.fault e.holds).0 y), λ x. (big_when e.fault e.holds).1 (m.is_big.1 x));
}
  where
    yes_when : (b : Bool) (f : Fault) → IsYes (fault_or f (yes_no b)) → b ≡ true
    yes_when true NoFault h = refl
    yes_when false NoFault h = sym (ap is_true (value.outs-Bool false)) ∙ h
    yes_when b (IsWrong p) h = cc
    yes_when b (IsBig p) h = cc

    when_yes : (b : Bool) (f : Fault) → b ≡ true → (IsWrongFault f → ⊥) → (IsBigFault f → ⊥) → IsYes (fault_or f (yes_no b))
    when_yes true NoFault h nw nb = ap is_true (value.outs-Bool true)
    when_yes false NoFault h nw nb = cc
    when_yes b (IsWrong p) h nw nb = absurd (nw tt)
    when_yes b (IsBig p) h nw nb = absurd (nb tt)

    wrong_when : (f : Fault) (o : Bool) → IsWrongOutcome (fault_or f (yes_no o)) ↔ IsWrongFault f
    wrong_when NoFault o = (λ h. h, λ h. h)
    wrong_when (IsWrong p) o = (λ h. h, λ h. h)
    wrong_when (IsBig p) o = (λ h. h, λ h. h)

    big_when : (f : Fault) (o : Bool) → IsBigOutcome (fault_or f (yes_no o)) ↔ IsBigFault f
    big_when NoFault o = (λ h. h, λ h. h)
    big_when (IsWrong p) o = (λ h. h, λ h. h)
    big_when (IsBig p) o = (λ h. h, λ h. h)
