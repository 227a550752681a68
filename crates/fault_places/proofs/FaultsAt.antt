-- Operations on outcomes, forms and effects give faults at places that they were given. P is any property of places.
use Rattle.std.proofs.Common.{Bool, true, false, List, [], ◌∷◌, map, Option, Some, None, if◌then◌else◌}
use Rattle.std.specs.List.{AllByRecursion}
use Rattle.tla_values.specs.Order.{Layer}
use Rattle.tla_values.specs.declared.value.Value.{Value, out-Value}
use Rattle.tla_values.specs.declared.value.Value.TheOpen as layer
use Rattle.tla_meaning.specs.declared.place.Place.{Place}
use Rattle.tla_meaning.specs.declared.actions.Effect.{Effect}
use Rattle.tla_meaning.specs.declared.outcome.Fault.{Fault}
use Rattle.tla_meaning.specs.declared.outcome.Fault.TheVariants.{NoFault, IsWrong, IsBig}
use Rattle.tla_meaning.specs.declared.outcome.Outcome.{Outcome}
use Rattle.tla_meaning.specs.declared.outcome.Outcome.TheVariants.{Val, Wrong, Big}
use Rattle.tla_meaning.specs.Outcomes.{before, least, join_faults, fault_of, joined, values, fault_or, strict, with_value}
use Rattle.tla_meaning.specs.Shapes.{choices, all_set_items}
use Rattle.tla_meaning.specs.Operators.{yes_no}
use Rattle.tla_meaning.specs.Meaning.{by_truth, choose, conjoined, disjoined, implied, if_chosen, case_chosen}
use Rattle.tla_meaning.specs.Actions.{fails_by, effect_of, outcome_of, effects_and, effects_or, guard, guarded, case_effect, if_effect, exists_effect}

abbrev pub FaultAt : (Place → Type 0) → Fault → Type 0
FaultAt P NoFault = Unit {0}
FaultAt P (IsWrong p) = P p
FaultAt P (IsBig p) = P p

abbrev pub OutcomeAt : (Place → Type 0) → Outcome → Type 0
OutcomeAt P (Val v) = Unit {0}
OutcomeAt P (Wrong p) = P p
OutcomeAt P (Big p) = P p

abbrev pub OutcomesAt : (Place → Type 0) → List Outcome → Type 0
OutcomesAt P os = AllByRecursion (OutcomeAt P) os

abbrev pub EffectAt : (Place → Type 0) → Effect → Type 0
EffectAt P e = FaultAt P e.fault

abbrev pub EffectsAt : (Place → Type 0) → List Effect → Type 0
EffectsAt P es = AllByRecursion (EffectAt P) es

-- ---- joins

module _ (P : Place → Type 0) where
  pub either_at : (b : Bool) (o q : Outcome) → OutcomeAt P o → OutcomeAt P q → OutcomeAt P (if b then o else q)
  either_at true o q h k = h
  either_at false o q h k = k

  least_at : (p q : Place) → P p → P q → P (least p q)
  least_at p q h k = by_order (before q p)
    where
      by_order : (b : Bool) → P (if b then q else p)
      by_order true = k
      by_order false = h

  pub join_at : (f g : Fault) → FaultAt P f → FaultAt P g → FaultAt P (join_faults f g)
  join_at NoFault g h k = k
  join_at (IsWrong p) NoFault h k = h
  join_at (IsWrong p) (IsWrong q) h k = least_at p q h k
  join_at (IsWrong p) (IsBig q) h k = h
  join_at (IsBig p) NoFault h k = h
  join_at (IsBig p) (IsWrong q) h k = k
  join_at (IsBig p) (IsBig q) h k = least_at p q h k

  pub fault_at : (o : Outcome) → OutcomeAt P o → FaultAt P (fault_of o)
  fault_at (Val v) h = tt
  fault_at (Wrong p) h = h
  fault_at (Big p) h = h

  pub joined_at : (os : List Outcome) → OutcomesAt P os → FaultAt P (joined os)
  joined_at [] h = tt
  joined_at (o ∷ os) h = join_at (fault_of o) (joined os) (fault_at o h.0) (joined_at os h.1)

  pub unless_at : (f : Fault) (o : Outcome) → FaultAt P f → OutcomeAt P o → OutcomeAt P (fault_or f o)
  unless_at NoFault o h k = k
  unless_at (IsWrong p) o h k = h
  unless_at (IsBig p) o h k = h

  pub strict_at : (os : List Outcome) (f : List Value → Outcome) → OutcomesAt P os →
      ((vs : List Value) → OutcomeAt P (f vs)) → OutcomeAt P (strict os f)
  strict_at os f h r = unless_at (joined os) (f (values os)) (joined_at os h) (r (values os))

  pub with_at : (o : Outcome) (f : Value → Outcome) → OutcomeAt P o → ((v : Value) → OutcomeAt P (f v)) →
      OutcomeAt P (with_value o f)
  with_at (Val v) f h r = r v
  with_at (Wrong p) f h r = h
  with_at (Big p) f h r = h

  pub each_at : {X : Type 0} (f : X → Outcome) → ((x : X) → OutcomeAt P (f x)) → (xs : List X) → OutcomesAt P (map f xs)
  each_at f r [] = tt
  each_at f r (x ∷ xs) = (r x, each_at f r xs)

  -- ---- effects of actions

  pub effect_at : (o : Outcome) → OutcomeAt P o → EffectAt P (effect_of o)
  effect_at (Val v) h = tt
  effect_at (Wrong p) h = h
  effect_at (Big p) h = h

  pub outcome_at : (e : Effect) → EffectAt P e → OutcomeAt P (outcome_of e)
  outcome_at e h = unless_at e.fault (yes_no e.holds) h tt

  and_one_at : (b : Bool) (e rest : Effect) → EffectAt P e → EffectAt P rest →
      EffectAt P (elim b [ true ↦ record { holds = rest.holds; fault = join_faults e.fault rest.fault } | false ↦ e ])
  and_one_at true e rest h k = join_at e.fault rest.fault h k
  and_one_at false e rest h k = h

  pub effects_and_at : (es : List Effect) → EffectsAt P es → EffectAt P (effects_and es)
  effects_and_at [] h = tt
  effects_and_at (e ∷ es) h = and_one_at e.holds e (effects_and es) h.0 (effects_and_at es h.1)

  pub effects_or_at : (es : List Effect) → EffectsAt P es → EffectAt P (effects_or es)
  effects_or_at [] h = tt
  effects_or_at (e ∷ es) h = join_at e.fault (effects_or es).fault h.0 (effects_or_at es h.1)

  all_at : (f : List Value → Effect) → ((vs : List Value) → EffectAt P (f vs)) → (xss : List (List Value)) →
      EffectsAt P (map f xss)
  all_at f r [] = tt
  all_at f r (xs ∷ xss) = (r xs, all_at f r xss)

-- ---- truth values

module _ (P : Place → Type 0) (p : Place) (here : P p) where
  by_truth_at : (l : Layer Value) (a b : Outcome) → OutcomeAt P a → OutcomeAt P b →
      OutcomeAt P (by_truth p l a b)
  by_truth_at (layer.Bool true) a b h k = h
  by_truth_at (layer.Bool false) a b h k = k
  by_truth_at l a b h k = here

  pub choose_at : (o a b : Outcome) → OutcomeAt P o → OutcomeAt P a → OutcomeAt P b →
      OutcomeAt P (choose p o a b)
  choose_at o a b x h k = with_at P o (λ v. by_truth p (out-Value v) a b) x (λ v. by_truth_at (out-Value v) a b h k)

  pub conjoined_at : (os : List Outcome) → OutcomesAt P os → OutcomeAt P (conjoined p os)
  conjoined_at [] h = tt
  conjoined_at (o ∷ os) h = choose_at o (conjoined p os) (yes_no false) h.0 (conjoined_at os h.1) tt

  pub disjoined_at : (os : List Outcome) → OutcomesAt P os → OutcomeAt P (disjoined p os)
  disjoined_at [] h = tt
  disjoined_at (o ∷ os) h = choose_at o (yes_no true) (disjoined p os) h.0 tt (disjoined_at os h.1)

  pub implied_at : (os : List Outcome) → OutcomesAt P os → OutcomeAt P (implied p os)
  implied_at (a ∷ b ∷ []) h =
      choose_at a (choose p b (yes_no true) (yes_no false)) (yes_no true) h.0
      (choose_at b (yes_no true) (yes_no false) h.1.0 tt tt) tt
  implied_at os h = here

  pub if_chosen_at : (os : List Outcome) → OutcomesAt P os → OutcomeAt P (if_chosen p os)
  if_chosen_at (c ∷ a ∷ b ∷ []) h = choose_at c a b h.0 h.1.0 h.1.1.0
  if_chosen_at os h = here

  pub case_chosen_at : (os : List Outcome) → OutcomesAt P os → OutcomeAt P (case_chosen p os)
  case_chosen_at [] h = here
  case_chosen_at (o ∷ []) h = h.0
  case_chosen_at (c ∷ a ∷ os) h = choose_at c a (case_chosen p os) h.0 h.1.0 (case_chosen_at os h.1.1)

  -- ---- guards and domains of actions

  guard_at : (l : Layer Value) (a b : Effect) → EffectAt P a → EffectAt P b → EffectAt P (guard p l a b)
  guard_at (layer.Bool true) a b h k = h
  guard_at (layer.Bool false) a b h k = k
  guard_at l a b h k = here

  guarded_at : (o : Outcome) (a b : Effect) → OutcomeAt P o → EffectAt P a → EffectAt P b →
      EffectAt P (guarded p o a b)
  guarded_at (Val v) a b x h k = guard_at (out-Value v) a b h k
  guarded_at (Wrong q) a b x h k = x
  guarded_at (Big q) a b x h k = x

  pub case_effect_at : (os : List Outcome) (es : List Effect) → OutcomesAt P os → EffectsAt P es →
      EffectAt P (case_effect p os es)
  case_effect_at (c ∷ d ∷ os) (e ∷ a ∷ es) h k =
      guarded_at c a (case_effect p os es) h.0 k.1.0 (case_effect_at os es h.1.1 k.1.1)
  case_effect_at (o ∷ []) (e ∷ es) h k = k.0
  case_effect_at os es h k = here

  pub if_effect_at : (os : List Outcome) (es : List Effect) → OutcomesAt P os → EffectsAt P es →
      EffectAt P (if_effect p os es)
  if_effect_at (c ∷ os) (e ∷ a ∷ b ∷ []) h k = guarded_at c a b h.0 k.1.0 k.1.1.0
  if_effect_at os es h k = here

  pub exists_effect_at : (os : List Outcome) (body : List Value → Effect) → OutcomesAt P os →
      ((vs : List Value) → EffectAt P (body vs)) → EffectAt P (exists_effect p os body)
  exists_effect_at os body h r = by_fault (joined os) (joined_at P os h)
    where
      over : Option (List (List Value)) → Effect
      over o = elim o [ None ↦ fails_by (IsWrong p) | Some xss ↦ effects_or (map body (choices xss)) ]

      by_items : (o : Option (List (List Value))) → EffectAt P (over o)
      by_items None = here
      by_items (Some xss) = effects_or_at P (map body (choices xss)) (all_at P body r (choices xss))

      by_fault : (f : Fault) → FaultAt P f →
          EffectAt P (elim f [
            | NoFault ↦ over (all_set_items (values os))
            | IsWrong q ↦ fails_by (IsWrong q)
            | IsBig q ↦ fails_by (IsBig q)
          ])
      by_fault NoFault k = by_items (all_set_items (values os))
      by_fault (IsWrong q) k = k
      by_fault (IsBig q) k = k
