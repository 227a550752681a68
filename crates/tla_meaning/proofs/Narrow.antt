-- Outcomes, faults, forms and effects under a width, beside those without one.
use Rattle.std.proofs.Common.{◌≡◌, ℕ, Some, List, [], ◌∷◌, map, refl, ap, subst}
use Rattle.tla_values.specs.declared.value.Value.{Value}
use Rattle.tla_meaning.specs.declared.place.Place.{Place}
use Rattle.tla_meaning.specs.declared.outcome.Fault.{Fault}
use Rattle.tla_meaning.specs.declared.outcome.Fault.TheVariants.{NoFault, IsWrong, IsBig}
use Rattle.tla_meaning.specs.declared.outcome.Outcome.{Outcome}
use Rattle.tla_meaning.specs.Outcomes.{join_faults, least, fault_of, joined, values, fault_or, strict, with_value}
use Rattle.tla_meaning.specs.Numbers.{Width}
use Rattle.tla_meaning.specs.Widths.{Narrow, SameValue, BothWrong, TooBig}

-- ---- faults

abbrev pub WrongFault : Fault → Type 0
WrongFault NoFault = ⊥
WrongFault (IsWrong p) = Unit {0}
WrongFault (IsBig p) = ⊥

pub data NarrowFault : Width → Fault → Fault → Type 0 where
  NoFaults : {w : Width} → NarrowFault w NoFault NoFault
  WrongFaults : {w : Width} → (f g : Fault) → WrongFault f → WrongFault g → NarrowFault w f g
  BigFault : {w : ℕ} → (p : Place) (g : Fault) → NarrowFault (Some w) (IsBig p) g

pub wrong_left : (f g : Fault) → WrongFault f → WrongFault (join_faults f g)
wrong_left NoFault g h = absurd h
wrong_left (IsWrong p) NoFault h = tt
wrong_left (IsWrong p) (IsWrong q) h = tt
wrong_left (IsWrong p) (IsBig q) h = tt
wrong_left (IsBig p) g h = absurd h

pub wrong_right : (f g : Fault) → WrongFault g → WrongFault (join_faults f g)
wrong_right NoFault g h = h
wrong_right (IsWrong p) NoFault h = absurd h
wrong_right (IsWrong p) (IsWrong q) h = tt
wrong_right (IsWrong p) (IsBig q) h = absurd h
wrong_right (IsBig p) NoFault h = absurd h
wrong_right (IsBig p) (IsWrong q) h = tt
wrong_right (IsBig p) (IsBig q) h = absurd h

pub both_narrow : {w : Width} → {f g h k : Fault} → NarrowFault w f g → NarrowFault w h k → NarrowFault w (join_faults f h) (join_faults g k)
both_narrow NoFaults r = r
both_narrow {h = h} {k = k} (WrongFaults f g x y) r = WrongFaults (join_faults f h) (join_faults g k) (wrong_left f h x) (wrong_left g k y)
both_narrow (BigFault p g) NoFaults = BigFault p (join_faults g NoFault)
both_narrow (BigFault p g) (WrongFaults h k x y) =
    WrongFaults (join_faults (IsBig p) h) (join_faults g k) (wrong_right (IsBig p) h x) (wrong_right g k y)
both_narrow (BigFault p g) (BigFault q k) = BigFault (least p q) (join_faults g k)

pub fault_narrow : {w : Width} → {o q : Outcome} → Narrow w o q → NarrowFault w (fault_of o) (fault_of q)
fault_narrow (SameValue v) = NoFaults
fault_narrow (BothWrong p q) = WrongFaults (IsWrong p) (IsWrong q) tt tt
fault_narrow (TooBig p o) = BigFault p (fault_of o)

pub wrong_not_none : (f : Fault) → WrongFault f → f ≡ NoFault → ⊥
wrong_not_none f h e = subst WrongFault e h

pub big_not_none : (p : Place) → IsBig p ≡ NoFault → ⊥
big_not_none p e = cc

pub left_none : (f g : Fault) → join_faults f g ≡ NoFault → f ≡ NoFault
left_none NoFault g e = refl
left_none (IsWrong p) g e = absurd (wrong_not_none (join_faults (IsWrong p) g) (wrong_left (IsWrong p) g tt) e)
left_none (IsBig p) NoFault e = e
left_none (IsBig p) (IsWrong q) e = cc
left_none (IsBig p) (IsBig q) e = cc

pub right_none : (f g : Fault) → join_faults f g ≡ NoFault → g ≡ NoFault
right_none f g e = subst (λ (x : Fault). join_faults x g ≡ NoFault) (left_none f g e) e

-- ---- outcomes of several operands

pub data AllNarrow (w : Width) : List Outcome → List Outcome → Type 0 where
  none_narrow : AllNarrow w [] []
  more_narrow : {o q : Outcome} {os qs : List Outcome} → Narrow w o q → AllNarrow w os qs → AllNarrow w (o ∷ os) (q ∷ qs)

pub joined_narrow : {w : Width} → {os qs : List Outcome} → AllNarrow w os qs → NarrowFault w (joined os) (joined qs)
joined_narrow none_narrow = NoFaults
joined_narrow (more_narrow r rs) = both_narrow (fault_narrow r) (joined_narrow rs)

pub values_narrow : {w : Width} → {os qs : List Outcome} → AllNarrow w os qs → joined os ≡ NoFault → values os ≡ values qs
values_narrow none_narrow e = refl
values_narrow (more_narrow (SameValue v) rs) e = ap (λ (vs : List Value). v ∷ vs) (values_narrow rs e)
values_narrow (more_narrow {os = os} (BothWrong p q) rs) e = absurd (wrong_not_none (join_faults (IsWrong p) (joined os)) (wrong_left (IsWrong p) (joined os) tt) e)
values_narrow (more_narrow {os = os} (TooBig p o) rs) e = absurd (big_not_none p (left_none (IsBig p) (joined os) e))

pub unless_narrow : {w : Width} → {f g : Fault} {o q : Outcome} → NarrowFault w f g → (f ≡ NoFault → Narrow w o q) → Narrow w (fault_or f o) (fault_or g q)
unless_narrow NoFaults r = r refl
unless_narrow (WrongFaults NoFault g x y) r = absurd x
unless_narrow (WrongFaults (IsWrong p) NoFault x y) r = absurd y
unless_narrow (WrongFaults (IsWrong p) (IsWrong q) x y) r = BothWrong p q
unless_narrow (WrongFaults (IsWrong p) (IsBig q) x y) r = absurd y
unless_narrow (WrongFaults (IsBig p) g x y) r = absurd x
unless_narrow {q = q} (BigFault p g) r = TooBig p (fault_or g q)

-- operands without a fault have the same values
pub strict_where : {w : Width} → {os qs : List Outcome} (f g : List Value → Outcome) → AllNarrow w os qs →
    (joined os ≡ NoFault → (vs : List Value) → Narrow w (f vs) (g vs)) → Narrow w (strict os f) (strict qs g)
strict_where {w = w} {os = os} {qs = qs} f g rs r =
    unless_narrow (joined_narrow rs) (λ e. subst (λ (vs : List Value). Narrow w (f (values os)) (g vs)) (values_narrow rs e) (r e (values os)))

pub strict_narrow : {w : Width} → {os qs : List Outcome} (f g : List Value → Outcome) → AllNarrow w os qs →
    ((vs : List Value) → Narrow w (f vs) (g vs)) → Narrow w (strict os f) (strict qs g)
strict_narrow f g rs r = strict_where f g rs (λ e. r)

pub with_narrow : {w : Width} → {o q : Outcome} (f g : Value → Outcome) → Narrow w o q → ((v : Value) → Narrow w (f v) (g v)) →
    Narrow w (with_value o f) (with_value q g)
with_narrow f g (SameValue v) r = r v
with_narrow f g (BothWrong p q) r = BothWrong p q
with_narrow f g (TooBig p o) r = TooBig p (with_value o g)

pub each_narrow : {w : Width} → {X : Type 0} (f g : X → Outcome) → ((x : X) → Narrow w (f x) (g x)) → (xs : List X) → AllNarrow w (map f xs) (map g xs)
each_narrow f g r [] = none_narrow
each_narrow f g r (x ∷ xs) = more_narrow (r x) (each_narrow f g r xs)
