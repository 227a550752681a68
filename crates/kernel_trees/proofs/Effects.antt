-- The algebra of effects: a disjunction is a commutative, idempotent monoid, a conjunction a monoid that goes through a
-- disjunction on either side.
use Rattle.std.proofs.Common.{◌≡◌, Bool, true, false, ◌||◌, List, [], ◌∷◌, ◌++◌, refl, sym, ◌∙◌, ap, ap₂}
use Rattle.tla_meaning.specs.declared.outcome.Fault.{Fault}
use Rattle.tla_meaning.specs.declared.outcome.Fault.TheVariants.{NoFault}
use Rattle.tla_meaning.specs.Outcomes.{join_faults}
use Rattle.tla_meaning.specs.declared.actions.Effect.{Effect}
use Rattle.tla_meaning.specs.Actions.{fails_by, effects_or}
use Rattle.tla_meaning.proofs.Joins.{both_comm, both_same, both_unit, both_assoc}
use Rattle.kernel_trees.specs.inner.Runs.{done, and_then}

abbrev pub or_also : Effect → Effect → Effect
or_also e f = record { holds = e.holds || f.holds; fault = join_faults e.fault f.fault }

abbrev pub effect : Bool → Fault → Effect
effect b f = record { holds = b; fault = f }

-- ---- booleans

or_false : (a : Bool) → (a || false) ≡ a
or_false true = refl
or_false false = refl

or_same : (a : Bool) → (a || a) ≡ a
or_same true = refl
or_same false = refl

or_comm : (a b : Bool) → (a || b) ≡ (b || a)
or_comm true true = refl
or_comm true false = refl
or_comm false true = refl
or_comm false false = refl

or_assoc : (a b c : Bool) → ((a || b) || c) ≡ (a || (b || c))
or_assoc true b c = refl
or_assoc false b c = refl

-- ---- faults

-- of three faults, the first counts twice
both_twice : (f g h : Fault) → join_faults f (join_faults g h) ≡ join_faults (join_faults f g) (join_faults f h)
both_twice f g h =
    ap (λ (x : Fault). join_faults x (join_faults g h)) (sym (both_same f))
    ∙ both_assoc f f (join_faults g h)
    ∙ ap (join_faults f) (sym (both_assoc f g h) ∙ ap (λ (x : Fault). join_faults x h) (both_comm f g) ∙ both_assoc g f h)
    ∙ sym (both_assoc f g (join_faults f h))

both_swap : (f g h k : Fault) → join_faults (join_faults f g) (join_faults h k) ≡ join_faults (join_faults f h) (join_faults g k)
both_swap f g h k =
    both_assoc f g (join_faults h k)
    ∙ ap (join_faults f) (sym (both_assoc g h k) ∙ ap (λ (x : Fault). join_faults x k) (both_comm g h) ∙ both_assoc h g k)
    ∙ sym (both_assoc f h (join_faults g k))

-- ---- disjunctions

pub or_nothing : (e : Effect) → or_also e (fails_by NoFault) ≡ e
or_nothing e = λ i. record { holds = or_false e.holds i; fault = both_unit e.fault i }

pub or_twice : (e : Effect) → or_also e e ≡ e
or_twice e = λ i. record { holds = or_same e.holds i; fault = both_same e.fault i }

pub or_swapped : (e f : Effect) → or_also e f ≡ or_also f e
or_swapped e f = λ i. record { holds = or_comm e.holds f.holds i; fault = both_comm e.fault f.fault i }

pub or_grouped : (e f g : Effect) → or_also (or_also e f) g ≡ or_also e (or_also f g)
or_grouped e f g = λ i. record { holds = or_assoc e.holds f.holds g.holds i; fault = both_assoc e.fault f.fault g.fault i }

pub or_four : (a b c d : Effect) → or_also (or_also a b) (or_also c d) ≡ or_also (or_also a c) (or_also b d)
or_four a b c d =
    or_grouped a b (or_also c d)
    ∙ ap (or_also a) (sym (or_grouped b c d) ∙ ap (λ (x : Effect). or_also x d) (or_swapped b c) ∙ or_grouped c b d)
    ∙ sym (or_grouped a c (or_also b d))

pub or_append : (es fs : List Effect) → effects_or (es ++ fs) ≡ or_also (effects_or es) (effects_or fs)
or_append [] fs = refl
or_append (e ∷ es) fs = ap (or_also e) (or_append es fs) ∙ sym (or_grouped e (effects_or es) (effects_or fs))

-- ---- conjunctions

pub and_done : (e : Effect) → and_then e done ≡ e
and_done e = and_done_by e.holds e.fault
  where
    and_done_by : (b : Bool) (f : Fault) → and_then (effect b f) done ≡ effect b f
    and_done_by true f = ap (effect true) (both_unit f)
    and_done_by false f = refl

pub and_grouped : (e f g : Effect) → and_then (and_then e f) g ≡ and_then e (and_then f g)
and_grouped e f g = by e.holds e.fault f.holds f.fault
  where
    by : (b : Bool) (x : Fault) (c : Bool) (y : Fault) →
        and_then (and_then (effect b x) (effect c y)) g ≡ and_then (effect b x) (and_then (effect c y) g)
    by true x true y = ap (effect g.holds) (both_assoc x y g.fault)
    by true x false y = refl
    by false x c y = refl

-- from the left
pub and_or : (a b e : Effect) → and_then (or_also a b) e ≡ or_also (and_then a e) (and_then b e)
and_or a b e = by a.holds a.fault b.holds b.fault
  where
    by : (c : Bool) (x : Fault) (d : Bool) (y : Fault) →
        and_then (or_also (effect c x) (effect d y)) e ≡ or_also (and_then (effect c x) e) (and_then (effect d y) e)
    by true x true y =
        ap₂ effect (sym (or_same e.holds))
        (both_comm (join_faults x y) e.fault ∙ both_twice e.fault x y ∙ ap₂ join_faults (both_comm e.fault x) (both_comm e.fault y))
    by true x false y =
        ap₂ effect (sym (or_false e.holds))
        (both_assoc x y e.fault ∙ ap (join_faults x) (both_comm y e.fault) ∙ sym (both_assoc x e.fault y))
    by false x true y = ap (effect e.holds) (both_assoc x y e.fault)
    by false x false y = refl

-- from the right
pub or_and : (a e f : Effect) → or_also (and_then a e) (and_then a f) ≡ and_then a (or_also e f)
or_and a e f = by a.holds a.fault
  where
    by : (c : Bool) (x : Fault) →
        or_also (and_then (effect c x) e) (and_then (effect c x) f) ≡ and_then (effect c x) (or_also e f)
    by true x = ap (effect (e.holds || f.holds)) (sym (both_twice x e.fault f.fault))
    by false x = ap (effect false) (both_same x)
