-- The join of the outcomes of several items, by tests on these.
use Rattle.std.proofs.Common.{◌≡◌, Bool, true, false, not, ◌&&◌, ◌||◌, List, [], ◌∷◌, map, refl, sym, ◌∙◌, ap}
use Rattle.std.specs.List.{list_any, list_all}
use Rattle.tla_values.specs.declared.value.Value.{Value}
use Rattle.tla_values.specs.declared.value.Value.TheVariants as value
use Rattle.tla_meaning.specs.declared.outcome.Fault.{Fault}
use Rattle.tla_meaning.specs.declared.outcome.Fault.TheVariants.{NoFault, IsWrong, IsBig}
use Rattle.tla_meaning.specs.declared.outcome.Outcome.{Outcome}
use Rattle.tla_meaning.specs.declared.outcome.Outcome.TheVariants.{Val, Wrong, Big}
use Rattle.tla_meaning.specs.declared.place.Place.{Place}
use Rattle.tla_meaning.specs.Outcomes.{join_faults, fault_of, joined, values, fault_or}
use Rattle.outcome_cells.specs.Shown.{Shown, ShownFault, is_wrong, is_big}
use Rattle.outcome_cells.proofs.Showing.{both_shown, none_shown}

-- the value of an outcome, where it is one
abbrev pub val_of : Outcome → Value
val_of (Val v) = v
val_of (Wrong p) = value.Bool false
val_of (Big p) = value.Bool false

pub own_shown : (o : Outcome) → Shown (is_wrong o) (is_big o) (val_of o) o
own_shown (Val v) = record { wrong = refl; big = refl; value = λ x e. ap val_of e }
own_shown (Wrong p) = record { wrong = refl; big = refl; value = λ x e. absurd (cc) }
own_shown (Big p) = record { wrong = refl; big = refl; value = λ x e. absurd (cc) }

pub any_map : {X Y : Type 0} (p : Y → Bool) (h : X → Y) (xs : List X) →
    list_any p (map h xs) ≡ list_any (λ x. p (h x)) xs
any_map p h [] = refl
any_map p h (x ∷ xs) = ap (λ t. p (h x) || t) (any_map p h xs)

pub all_map : {X Y : Type 0} (p : Y → Bool) (h : X → Y) (xs : List X) →
    list_all p (map h xs) ≡ list_all (λ x. p (h x)) xs
all_map p h [] = refl
all_map p h (x ∷ xs) = ap (λ t. p (h x) && t) (all_map p h xs)

-- a fault, else the value
pub unless_value : (fw fb : Bool) (v : Value) (f : Fault) (o : Outcome) → ShownFault fw fb f →
    (f ≡ NoFault → o ≡ Val v) →
    Shown fw fb v (fault_or f o)
unless_value fw fb v NoFault o h k = let e = k refl in record {
  wrong = h.wrong ∙ sym (ap is_wrong e);
  big = h.big ∙ sym (ap is_big e);
  value = λ x i. ap val_of (sym e ∙ i);
}
unless_value fw fb v (IsWrong p) o h k = record { wrong = h.wrong; big = h.big; value = λ x e. absurd (cc) }
unless_value fw fb v (IsBig p) o h k = record { wrong = h.wrong; big = h.big; value = λ x e. absurd (cc) }

no_wrong : (p : Place) (f : Fault) → join_faults (IsWrong p) f ≡ NoFault → ⊥
no_wrong p NoFault e = cc
no_wrong p (IsWrong q) e = cc
no_wrong p (IsBig q) e = cc

no_big : (p : Place) (f : Fault) → join_faults (IsBig p) f ≡ NoFault → ⊥
no_big p NoFault e = cc
no_big p (IsWrong q) e = cc
no_big p (IsBig q) e = cc

module _ {X : Type 0} (g : X → Outcome) where
  -- Wrong where some item is, Big where some item is and none is Wrong
  pub items_shown : (xs : List X) →
      ShownFault (list_any (λ x. is_wrong (g x)) xs) (not (list_any (λ x. is_wrong (g x)) xs) && list_any (λ x. is_big (g x)) xs)
      (joined (map g xs))
  items_shown [] = none_shown
  items_shown (x ∷ xs) =
      let w : Bool = list_any (λ x. is_wrong (g x)) xs in
      let b : Bool = list_any (λ x. is_big (g x)) xs in
      let s = both_shown (is_wrong (g x)) (is_big (g x)) w (not w && b) (val_of (g x)) (g x) (joined (map g xs)) (own_shown (g x)) (items_shown xs) in
      record { wrong = s.wrong; big = sym (more (is_wrong (g x)) (is_big (g x)) w b) ∙ s.big }
    where
      more : (v c w b : Bool) → (not (v || w) && (c || (not w && b))) ≡ (not (v || w) && (c || b))
      more true c w b = refl
      more false c true b = refl
      more false c false b = refl

  -- without a fault each of them is a value
  pub items_values : (xs : List X) → joined (map g xs) ≡ NoFault → values (map g xs) ≡ map (λ x. val_of (g x)) xs
  items_values [] e = refl
  items_values (x ∷ xs) e = go (items_values xs) (g x) refl e
    where
      go : (joined (map g xs) ≡ NoFault → values (map g xs) ≡ map (λ x. val_of (g x)) xs) → (o : Outcome) → g x ≡ o →
          join_faults (fault_of o) (joined (map g xs)) ≡ NoFault → values (o ∷ map g xs) ≡ val_of o ∷ map (λ x. val_of (g x)) xs
      go m (Val v) i e = ap (λ vs. v ∷ vs) (m e)
      go m (Wrong p) i e = absurd (no_wrong p (joined (map g xs)) e)
      go m (Big p) i e = absurd (no_big p (joined (map g xs)) e)
