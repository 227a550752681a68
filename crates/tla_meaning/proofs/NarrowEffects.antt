-- Effects of actions under a width, beside those without one.
use Rattle.std.proofs.Common.{◌≡◌, ℕ, Bool, true, false, ◌||◌, IsTrue, List, [], ◌∷◌, map, Option, Some, None, refl, subst}
use Rattle.tla_values.specs.Order.{Layer}
use Rattle.tla_values.specs.declared.value.Value.{Value, out-Value}
use Rattle.tla_values.specs.declared.value.Value.TheOpen as layer
use Rattle.tla_meaning.specs.declared.place.Place.{Place}
use Rattle.tla_meaning.specs.declared.outcome.Fault.{Fault}
use Rattle.tla_meaning.specs.declared.outcome.Fault.TheVariants.{NoFault, IsWrong, IsBig}
use Rattle.tla_meaning.specs.declared.outcome.Outcome.{Outcome}
use Rattle.tla_meaning.specs.Outcomes.{join_faults, least, values, fault_or}
use Rattle.tla_meaning.specs.Shapes.{choices, all_set_items, truth}
use Rattle.tla_meaning.specs.Operators.{yes_no}
use Rattle.tla_meaning.specs.declared.actions.Effect.{Effect}
use Rattle.tla_meaning.specs.Actions.{fails_by, is_true, effect_of, outcome_of, effects_and, effects_or, guard, guarded, case_effect, if_effect, exists_effect}
use Rattle.tla_meaning.specs.Numbers.{Width}
use Rattle.tla_meaning.specs.Widths.{Narrow, SameValue, BothWrong, TooBig}
use Rattle.tla_meaning.proofs.Views.{false≢true}
use Rattle.tla_meaning.proofs.Narrow.{NarrowFault, NoFaults, WrongFaults, BigFault, WrongFault, wrong_left, wrong_right, wrong_not_none, unless_narrow, AllNarrow, none_narrow, more_narrow, joined_narrow, values_narrow}

-- it holds, or else it has a fault that is Wrong
abbrev pub HoldsOr : Bool → Fault → Type 0
HoldsOr true g = Unit {0}
HoldsOr false g = WrongFault g

-- what holds beside a fault that is Big holds without a width, or is Wrong there
pub data Effects : Width → Bool → Fault → Bool → Fault → Type 0 where
  Clean : {w : Width} → (b : Bool) → Effects w b NoFault b NoFault
  Fails : {w : Width} → (a b : Bool) (f g : Fault) → WrongFault f → WrongFault g → Effects w a f b g
  Large : {w : ℕ} → (a b : Bool) (p : Place) (g : Fault) → (IsTrue a → HoldsOr b g) → Effects (Some w) a (IsBig p) b g

abbrev pub NarrowEffect : Width → Effect → Effect → Type 0
NarrowEffect w e f = Effects w e.holds e.fault f.holds f.fault

pub data AllEffects (w : Width) : List Effect → List Effect → Type 0 where
  no_effects : AllEffects w [] []
  more_effects : (e f : Effect) {es fs : List Effect} → NarrowEffect w e f → AllEffects w es fs → AllEffects w (e ∷ es) (f ∷ fs)

pub all_effects : {w : Width} → {X : Type 0} (f g : X → Effect) → ((x : X) → NarrowEffect w (f x) (g x)) → (xs : List X) → AllEffects w (map f xs) (map g xs)
all_effects f g r [] = no_effects
all_effects f g r (x ∷ xs) = more_effects (f x) (g x) (r x) (all_effects f g r xs)

pub wrong_effect : {w : Width} → (p q : Place) → NarrowEffect w (fails_by (IsWrong p)) (fails_by (IsWrong q))
wrong_effect p q = Fails false false (IsWrong p) (IsWrong q) tt tt

pub big_effect : {w : ℕ} → (p : Place) (e : Effect) → NarrowEffect (Some w) (fails_by (IsBig p)) e
big_effect p e = Large false e.holds p e.fault (λ t. absurd (false≢true t))

pub effect_of_narrow : {w : Width} → {o q : Outcome} → Narrow w o q → NarrowEffect w (effect_of o) (effect_of q)
effect_of_narrow (SameValue v) = Clean (is_true (out-Value v))
effect_of_narrow (BothWrong p q) = wrong_effect p q
effect_of_narrow (TooBig p o) = big_effect p (effect_of o)

by_parts : {w : Width} → {a b : Bool} {f g : Fault} → Effects w a f b g → Narrow w (fault_or f (yes_no a)) (fault_or g (yes_no b))
by_parts (Clean b) = SameValue (truth b)
by_parts (Fails a b f g x y) = unless_narrow (WrongFaults f g x y) (λ e. absurd (wrong_not_none f x e))
by_parts (Large a b p g r) = TooBig p (fault_or g (yes_no b))

pub outcome_of_narrow : {w : Width} → (e f : Effect) → NarrowEffect w e f → Narrow w (outcome_of e) (outcome_of f)
outcome_of_narrow e f r = by_parts r

clean_holds : (c : Bool) → IsTrue c → HoldsOr c NoFault
clean_holds true t = tt
clean_holds false t = absurd (false≢true t)

-- ---- conjunctions

abbrev and_one : Effect → Effect → Effect
and_one e rest = elim e.holds [ true ↦ record { holds = rest.holds; fault = join_faults e.fault rest.fault } | false ↦ e ]

abbrev pair : Bool → Fault → Effect
pair b f = record { holds = b; fault = f }

holds_and : (b d : Bool) (g k : Fault) → HoldsOr b g → HoldsOr d k →
    HoldsOr (and_one (pair b g) (pair d k)).holds (and_one (pair b g) (pair d k)).fault
holds_and true true g k x y = tt
holds_and true false g k x y = wrong_right g k y
holds_and false d g k x y = x

wrong_and : (b d : Bool) (g k : Fault) → HoldsOr b g → WrongFault k → WrongFault (and_one (pair b g) (pair d k)).fault
wrong_and true d g k x y = wrong_right g k y
wrong_and false d g k x y = x

and_step : {w : Width} → {a b c d : Bool} {f g h k : Fault} → Effects w a f b g → Effects w c h d k →
    NarrowEffect w (and_one (pair a f) (pair c h)) (and_one (pair b g) (pair d k))
and_step (Clean true) m = m
and_step (Clean false) m = Clean false
and_step {c = c} {d = d} {h = h} {k = k} (Fails true true f g x y) m =
    Fails c d (join_faults f h) (join_faults g k) (wrong_left f h x) (wrong_left g k y)
and_step {c = c} {h = h} (Fails true false f g x y) m = Fails c false (join_faults f h) g (wrong_left f h x) y
and_step {d = d} {k = k} (Fails false true f g x y) m = Fails false d f (join_faults g k) x (wrong_left g k y)
and_step (Fails false false f g x y) m = Fails false false f g x y
and_step {d = d} {k = k} (Large false b p g r) m = big_effect p (and_one (pair b g) (pair d k))
and_step (Large true b p g r) (Clean c) =
    let out : Effect = and_one (pair b g) (pair c NoFault) in
    Large c out.holds p out.fault (λ t. holds_and b c g NoFault (r refl) (clean_holds c t))
and_step (Large true b p g r) (Fails c d h k x y) =
    let out : Effect = and_one (pair b g) (pair d k) in
    Fails c out.holds (join_faults (IsBig p) h) out.fault (wrong_right (IsBig p) h x) (wrong_and b d g k (r refl) y)
and_step (Large true b p g r) (Large c d q k s) =
    let out : Effect = and_one (pair b g) (pair d k) in
    Large c out.holds (least p q) out.fault (λ t. holds_and b d g k (r refl) (s t))

pub effects_and_narrow : {w : Width} → {es fs : List Effect} → AllEffects w es fs → NarrowEffect w (effects_and es) (effects_and fs)
effects_and_narrow no_effects = Clean true
effects_and_narrow (more_effects e f r rs) = and_step r (effects_and_narrow rs)

-- ---- disjunctions

left_holds : (b d : Bool) (g k : Fault) → HoldsOr b g → HoldsOr (b || d) (join_faults g k)
left_holds true d g k x = tt
left_holds false true g k x = tt
left_holds false false g k x = wrong_left g k x

right_holds : (b d : Bool) (g k : Fault) → HoldsOr d k → HoldsOr (b || d) (join_faults g k)
right_holds true d g k x = tt
right_holds false true g k x = tt
right_holds false false g k x = wrong_right g k x

holds_or : (a b c d : Bool) (g k : Fault) → (IsTrue a → HoldsOr b g) → (IsTrue c → HoldsOr d k) → IsTrue (a || c) → HoldsOr (b || d) (join_faults g k)
holds_or true b c d g k r s t = left_holds b d g k (r refl)
holds_or false b c d g k r s t = right_holds b d g k (s t)

or_step : {w : Width} → {a b c d : Bool} {f g h k : Fault} → Effects w a f b g → Effects w c h d k → Effects w (a || c) (join_faults f h) (b || d) (join_faults g k)
or_step (Clean b) (Clean c) = Clean (b || c)
or_step (Clean b) (Fails c d h k x y) = Fails (b || c) (b || d) h k x y
or_step (Clean b) (Large c d q k s) = Large (b || c) (b || d) q k (holds_or b b c d NoFault k (clean_holds b) s)
or_step {c = c} {d = d} {h = h} {k = k} (Fails a b f g x y) m =
    Fails (a || c) (b || d) (join_faults f h) (join_faults g k) (wrong_left f h x) (wrong_left g k y)
or_step (Large a b p g r) (Clean c) = Large (a || c) (b || c) p (join_faults g NoFault) (holds_or a b c c g NoFault r (clean_holds c))
or_step (Large a b p g r) (Fails c d h k x y) =
    Fails (a || c) (b || d) (join_faults (IsBig p) h) (join_faults g k) (wrong_right (IsBig p) h x) (wrong_right g k y)
or_step (Large a b p g r) (Large c d q k s) = Large (a || c) (b || d) (least p q) (join_faults g k) (holds_or a b c d g k r s)

pub effects_or_narrow : {w : Width} → {es fs : List Effect} → AllEffects w es fs → NarrowEffect w (effects_or es) (effects_or fs)
effects_or_narrow no_effects = Clean false
effects_or_narrow (more_effects e f r rs) = or_step r (effects_or_narrow rs)

-- ---- guards and domains

guard_narrow : {w : Width} → (p : Place) (l : Layer Value) (a b c d : Effect) → NarrowEffect w a c → NarrowEffect w b d → NarrowEffect w (guard p l a b) (guard p l c d)
guard_narrow p (layer.Bool true) a b c d r s = r
guard_narrow p (layer.Bool false) a b c d r s = s
guard_narrow p l a b c d r s = wrong_effect p p

guarded_narrow : {w : Width} → (p : Place) {o q : Outcome} (a b c d : Effect) → Narrow w o q → NarrowEffect w a c → NarrowEffect w b d →
    NarrowEffect w (guarded p o a b) (guarded p q c d)
guarded_narrow p a b c d (SameValue v) r s = guard_narrow p (out-Value v) a b c d r s
guarded_narrow p a b c d (BothWrong x y) r s = wrong_effect x y
guarded_narrow p a b c d (TooBig x o) r s = big_effect x (guarded p o c d)

pub case_effect_narrow : {w : Width} → (p : Place) {os qs : List Outcome} {es fs : List Effect} → AllNarrow w os qs → AllEffects w es fs →
    NarrowEffect w (case_effect p os es) (case_effect p qs fs)
case_effect_narrow p (more_narrow r (more_narrow {os = os} {qs = qs} s rs)) (more_effects e f x (more_effects a b {es = es} {fs = fs} y xs)) =
    guarded_narrow p a (case_effect p os es) b (case_effect p qs fs) r y (case_effect_narrow p rs xs)
case_effect_narrow p (more_narrow r none_narrow) (more_effects e f x xs) = x
case_effect_narrow p rs xs = wrong_effect p p

pub if_effect_narrow : {w : Width} → (p : Place) {os qs : List Outcome} {es fs : List Effect} → AllNarrow w os qs → AllEffects w es fs →
    NarrowEffect w (if_effect p os es) (if_effect p qs fs)
if_effect_narrow p (more_narrow r rs) (more_effects e f x (more_effects a c y (more_effects b d z no_effects))) = guarded_narrow p a b c d r y z
if_effect_narrow p rs xs = wrong_effect p p

abbrev over : Place → Option (List (List Value)) → (List Value → Effect) → Effect
over p o body = elim o [ None ↦ fails_by (IsWrong p) | Some xss ↦ effects_or (map body (choices xss)) ]

over_narrow : {w : Width} → (p : Place) (f g : List Value → Effect) → ((vs : List Value) → NarrowEffect w (f vs) (g vs)) → (o : Option (List (List Value))) →
    NarrowEffect w (over p o f) (over p o g)
over_narrow p f g r None = wrong_effect p p
over_narrow p f g r (Some xss) = effects_or_narrow (all_effects f g r (choices xss))

abbrev unless_effect : Fault → Effect → Effect
unless_effect f e = elim f [ NoFault ↦ e | IsWrong q ↦ fails_by (IsWrong q) | IsBig q ↦ fails_by (IsBig q) ]

unless_effect_narrow : {w : Width} → {f g : Fault} (a b : Effect) → NarrowFault w f g → (f ≡ NoFault → NarrowEffect w a b) → NarrowEffect w (unless_effect f a) (unless_effect g b)
unless_effect_narrow a b NoFaults r = r refl
unless_effect_narrow a b (WrongFaults NoFault g x y) r = absurd x
unless_effect_narrow a b (WrongFaults (IsWrong p) NoFault x y) r = absurd y
unless_effect_narrow a b (WrongFaults (IsWrong p) (IsWrong q) x y) r = wrong_effect p q
unless_effect_narrow a b (WrongFaults (IsWrong p) (IsBig q) x y) r = absurd y
unless_effect_narrow a b (WrongFaults (IsBig p) g x y) r = absurd x
unless_effect_narrow a b (BigFault p g) r = big_effect p (unless_effect g b)

pub exists_effect_narrow : {w : Width} → (p : Place) {os qs : List Outcome} (f g : List Value → Effect) → AllNarrow w os qs →
    ((vs : List Value) → NarrowEffect w (f vs) (g vs)) → NarrowEffect w (exists_effect p os f) (exists_effect p qs g)
exists_effect_narrow {w = w} p {os = os} {qs = qs} f g rs r =
    unless_effect_narrow (over p (all_set_items (values os)) f) (over p (all_set_items (values qs)) g) (joined_narrow rs) (λ e.
    subst (λ (vs : List Value). NarrowEffect w (over p (all_set_items (values os)) f) (over p (all_set_items vs) g)) (values_narrow rs e)
    (over_narrow p f g r (all_set_items (values os))))
