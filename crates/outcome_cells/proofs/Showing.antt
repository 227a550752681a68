-- How the literals of a node are those of its children.
use Rattle.std.proofs.Common.{◌≡◌, Bool, true, false, not, ◌&&◌, ◌||◌, List, ◌∷◌, refl, sym, ◌∙◌, ap, subst}
use Rattle.std.specs.Prelude.{if◌then◌else◌}
use Rattle.tla_values.specs.declared.value.Value.{Value, out-Value}
use Rattle.tla_values.specs.declared.value.Value.TheOpen as layer
use Rattle.tla_values.specs.declared.value.Value.TheVariants as value
use Rattle.tla_meaning.specs.declared.outcome.Fault.{Fault}
use Rattle.tla_meaning.specs.declared.outcome.Fault.TheVariants.{NoFault, IsWrong, IsBig}
use Rattle.tla_meaning.specs.declared.outcome.Outcome.{Outcome}
use Rattle.tla_meaning.specs.declared.outcome.Outcome.TheVariants.{Val, Wrong, Big}
use Rattle.tla_meaning.specs.declared.place.Place.{Place}
use Rattle.tla_meaning.specs.Outcomes.{join_faults, fault_of, joined, values, fault_or, with_value}
use Rattle.tla_meaning.specs.Meaning.{choose, by_truth}
use Rattle.outcome_cells.specs.Shown.{Shown, ShownFault, is_wrong, is_big, wrong_fault, big_fault}

-- ---- one after the other

-- goes on with a value, of which alone the second pair need say something
pub later : (w b w2 b2 : Bool) (v v2 : Value) (o : Outcome) (f : Value → Outcome) → Shown w b v o
    → (o ≡ Val v → Shown w2 b2 v2 (f v))
    → Shown (w || (not b && w2)) (b || (not w && b2)) v2 (with_value o f)
later w b w2 b2 v v2 (Val x) f h k =
    let e : v ≡ x = h.value x refl in
    let s : Shown w2 b2 v2 (f x) = subst (λ y. Shown w2 b2 v2 (f y)) e (k (ap Val (sym e))) in
    record {
      wrong = ap (λ t. t || (not b && w2)) h.wrong ∙ ap (λ t. not t && w2) h.big ∙ s.wrong;
      big = ap (λ t. t || (not w && b2)) h.big ∙ ap (λ t. not t && b2) h.wrong ∙ s.big;
      value = s.value;
    }
later w b w2 b2 v v2 (Wrong p) f h k = record {
  wrong = ap (λ t. t || (not b && w2)) h.wrong;
  big = ap (λ t. t || (not w && b2)) h.big ∙ ap (λ t. not t && b2) h.wrong;
  value = λ x e. absurd (cc);
}
later w b w2 b2 v v2 (Big p) f h k = record {
  wrong = ap (λ t. t || (not b && w2)) h.wrong ∙ ap (λ t. not t && w2) h.big;
  big = ap (λ t. t || (not w && b2)) h.big;
  value = λ x e. absurd (cc);
}

-- the same literals and value, written otherwise
pub shown_as : (w w' b b' : Bool) (v v' : Value) (o : Outcome) → w ≡ w' → b ≡ b' → v ≡ v' → Shown w b v o →
    Shown w' b' v' o
shown_as w w' b b' v v' o e f g h = record {
  wrong = sym e ∙ h.wrong;
  big = sym f ∙ h.big;
  value = λ x i. sym g ∙ h.value x i;
}

-- ---- the join of several

pub none_shown : ShownFault false false NoFault
none_shown = record { wrong = refl; big = refl }

-- four truth values in the place of equal ones
pub at_four : (P : Bool → Bool → Bool → Bool → Type 0) (a b c d a' b' c' d' : Bool) → a ≡ a' → b ≡ b' → c ≡ c' →
    d ≡ d' → P a' b' c' d' → P a b c d
at_four P a b c d a' b' c' d' e f g h p =
    subst (λ x. P x b c d) (sym e) (subst (λ x. P a' x c d) (sym f) (subst (λ x. P a' b' x d) (sym g) (subst (λ x. P a' b' c' x) (sym h) p)))

-- one more operand in front
pub both_shown : (w b fw fb : Bool) (v : Value) (o : Outcome) (f : Fault) → Shown w b v o → ShownFault fw fb f
    → ShownFault (w || fw) (not (w || fw) && (b || fb)) (join_faults (fault_of o) f)
both_shown w b fw fb v o f h k =
    at_four (λ w b fw fb. ShownFault (w || fw) (not (w || fw) && (b || fb)) (join_faults (fault_of o) f)) w b fw fb _ _ _ _ h.wrong h.big k.wrong k.big (go o f)
  where
    go : (o : Outcome) (f : Fault) →
        ShownFault (is_wrong o || wrong_fault f) (not (is_wrong o || wrong_fault f) && (is_big o || big_fault f)) (join_faults (fault_of o) f)
    go (Val v) NoFault = record { wrong = refl; big = refl }
    go (Val v) (IsWrong q) = record { wrong = refl; big = refl }
    go (Val v) (IsBig q) = record { wrong = refl; big = refl }
    go (Wrong p) NoFault = record { wrong = refl; big = refl }
    go (Wrong p) (IsWrong q) = record { wrong = refl; big = refl }
    go (Wrong p) (IsBig q) = record { wrong = refl; big = refl }
    go (Big p) NoFault = record { wrong = refl; big = refl }
    go (Big p) (IsWrong q) = record { wrong = refl; big = refl }
    go (Big p) (IsBig q) = record { wrong = refl; big = refl }

-- a fault, else what comes after it
pub unless_shown : (fw fb w b : Bool) (v : Value) (f : Fault) (o : Outcome) → ShownFault fw fb f
    → (f ≡ NoFault → Shown w b v o)
    → Shown (fw || (not fb && w)) (fb || (not fw && b)) v (fault_or f o)
unless_shown fw fb w b v NoFault o h k = let s = k refl in record {
  wrong = ap (λ t. t || (not fb && w)) h.wrong ∙ ap (λ t. not t && w) h.big ∙ s.wrong;
  big = ap (λ t. t || (not fw && b)) h.big ∙ ap (λ t. not t && b) h.wrong ∙ s.big;
  value = s.value;
}
unless_shown fw fb w b v (IsWrong p) o h k = record {
  wrong = ap (λ t. t || (not fb && w)) h.wrong;
  big = ap (λ t. t || (not fw && b)) h.big ∙ ap (λ t. not t && b) h.wrong;
  value = λ x e. absurd (cc);
}
unless_shown fw fb w b v (IsBig p) o h k = record {
  wrong = ap (λ t. t || (not fb && w)) h.wrong ∙ ap (λ t. not t && w) h.big;
  big = ap (λ t. t || (not fw && b)) h.big;
  value = λ x e. absurd (cc);
}

-- where the join is no fault, the operands are their values
pub first_value : (w b : Bool) (v : Value) (o : Outcome) (os : List Outcome) → Shown w b v o → joined (o ∷ os) ≡ NoFault
    → (o ≡ Val v) × ((joined os ≡ NoFault) × (values (o ∷ os) ≡ v ∷ values os))
first_value w b v (Val x) os h e = let i = h.value x refl in (ap Val (sym i), (e, ap (λ y. y ∷ values os) (sym i)))
first_value w b v (Wrong p) os h e = absurd (never (joined os) e)
  where
    never : (f : Fault) → join_faults (IsWrong p) f ≡ NoFault → ⊥
    never NoFault e = cc
    never (IsWrong q) e = cc
    never (IsBig q) e = cc
first_value w b v (Big p) os h e = absurd (never (joined os) e)
  where
    never : (f : Fault) → join_faults (IsBig p) f ≡ NoFault → ⊥
    never NoFault e = cc
    never (IsWrong q) e = cc
    never (IsBig q) e = cc

-- ---- a choice by a truth value

pub chosen : (gw gb t xw xb yw yb : Bool) (xv yv : Value) (p : Place) (o ox oy : Outcome) → Shown gw gb (value.Bool t) o
    → (o ≡ Val (value.Bool t) → t ≡ true → Shown xw xb xv ox)
    → (o ≡ Val (value.Bool t) → t ≡ false → Shown yw yb yv oy)
    → Shown (gw || (not gb && (if t then xw else yw))) (gb || (not gw && (if t then xb else yb))) (if t then xv else yv) (choose p o ox oy)
chosen gw gb t xw xb yw yb xv yv p o ox oy g h k =
    later gw gb (if t then xw else yw) (if t then xb else yb) (value.Bool t) (if t then xv else yv) o (λ v. by_truth p (out-Value v) ox oy) g
    (λ e. subst (λ l. Shown (if t then xw else yw) (if t then xb else yb) (if t then xv else yv) (by_truth p l ox oy)) (sym (value.outs-Bool t)) (go t (h e) (k e)))
  where
    go : (t : Bool) → (t ≡ true → Shown xw xb xv ox) → (t ≡ false → Shown yw yb yv oy)
        → Shown (if t then xw else yw) (if t then xb else yb) (if t then xv else yv) (by_truth p (layer.Bool t) ox oy)
    go true h k = h refl
    go false h k = k refl
