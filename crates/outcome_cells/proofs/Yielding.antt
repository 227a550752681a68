-- From a cell with a literal that says where there is no value to the two literals of an outcome.
use Rattle.std.proofs.Common.{◌≡◌, Bool, true, false, not, refl, ◌∙◌, Option, Some, None, ℤ}
use Rattle.std.specs.Prelude.{if◌then◌else◌}
use Rattle.tla_values.specs.declared.value.Value.{Value}
use Rattle.tla_values.specs.declared.value.Value.TheVariants as value
use Rattle.tla_meaning.specs.declared.outcome.Outcome.TheVariants.{Val, Big}
use Rattle.tla_meaning.specs.declared.place.Place.{Place}
use Rattle.tla_meaning.specs.Numbers.{Width, in_width, number}
use Rattle.tla_meaning.specs.Operators.{or_wrong}
use Rattle.cell_merge.specs.Partial.{Tells}
use Rattle.outcome_cells.specs.Rows.{or_big}
use Rattle.outcome_cells.specs.Shown.{Shown}

val_one : (v w : Value) → Val v ≡ Val w → v ≡ w
val_one v w e = cc

-- a value
pub sure_shown : (v w : Value) → v ≡ w → Shown false false v (Val w)
sure_shown v w h = record { wrong = refl; big = refl; value = λ x e. h ∙ val_one w x e }

-- Wrong where there is none
pub yields_wrong : (out : Bool) (v : Value) (o : Option Value) (p : Place) → Tells out v o →
    Shown out false v (or_wrong p o)
yields_wrong out v None p h = record { wrong = h; big = refl; value = λ x e. absurd (cc) }
yields_wrong out v (Some w) p h = record { wrong = h.0; big = refl; value = λ x e. h.1 ∙ val_one w x e }

-- Big where it does not fit
pub fits_shown : (fits out : Bool) (v w : Value) (p : Place) → out ≡ not fits → (out ≡ false → v ≡ w) →
    Shown false out v (if fits then Val w else Big p)
fits_shown true out v w p h k = record { wrong = refl; big = h; value = λ x e. k h ∙ val_one w x e }
fits_shown false out v w p h k = record { wrong = refl; big = h; value = λ x e. absurd (cc) }

pub yields_big : (fits out : Bool) (v w : Value) (p : Place) → Tells out v (if fits then Some w else None) →
    Shown false out v (if fits then Val w else Big p)
yields_big true out v w p h = record { wrong = refl; big = h.0; value = λ x e. h.1 ∙ val_one w x e }
yields_big false out v w p h = record { wrong = refl; big = h; value = λ x e. absurd (cc) }

-- so it is said of a number that may be outside the width
pub or_big-fits : (fits : Bool) (p : Place) (v : Value) →
    or_big p (if fits then Some v else None) ≡ (if fits then Val v else Big p)
or_big-fits true p v = refl
or_big-fits false p v = refl

pub number-big : (w : Width) (p : Place) (n : ℤ) →
    or_big p (if in_width w n then Some (value.Int n) else None) ≡ number w p n
number-big w p n = or_big-fits (in_width w n) p (value.Int n)
