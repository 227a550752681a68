-- Whether forms are finite, by their kinds.
use Rattle.std.proofs.Common.{◌≡◌, ℕ, Bool, true, false, ◌&&◌, List, [], ◌∷◌, map, refl, ◌∙◌, ap}
use Rattle.std.specs.List.{list_all}
use Rattle.tla_values.specs.declared.value.Value.{Value}
use Rattle.tla_meaning.specs.declared.forms.SetForm.{SetForm}
use Rattle.tla_meaning.specs.declared.forms.SetForm.TheVariants as set
use Rattle.tla_meaning.specs.declared.forms.SetForm.TheOpen as form
use Rattle.tla_meaning.specs.declared.forms.SetForm.TheFolds.{fold_out-SetForm, map-SetForm}
use Rattle.tla_meaning.specs.declared.forms.SetForm.{out-SetForm}
use Rattle.form_choices.specs.FiniteForms.{is_finite, is_finite_at}

finite-out : (f : SetForm) → is_finite f ≡ is_finite_at (map-SetForm SetForm Bool is_finite (out-SetForm f))
unfolding is_finite
finite-out f = fold_out-SetForm Bool is_finite_at f

opened : (f : SetForm) (x : form.SetForm-F SetForm) → out-SetForm f ≡ x → is_finite f ≡ is_finite_at (map-SetForm SetForm Bool is_finite x)
opened f x e = finite-out f ∙ ap (λ y. is_finite_at (map-SetForm SetForm Bool is_finite y)) e

-- whether each of several is
abbrev pub all_finite : List SetForm → Bool
all_finite fs = list_all is_finite fs

all-mapped : (fs : List SetForm) → list_all (λ b. b) (map is_finite fs) ≡ all_finite fs
all-mapped [] = refl
all-mapped (f ∷ fs) = ap (λ b. is_finite f && b) (all-mapped fs)

pub finite-plain : (v : Value) → is_finite (set.Plain v) ≡ true
finite-plain v = opened (set.Plain v) (form.Plain v) (set.outs-Plain v)

pub finite-ints : is_finite set.AllInts ≡ false
finite-ints = opened set.AllInts form.AllInts set.outs-AllInts

pub finite-nats : is_finite set.AllNats ≡ false
finite-nats = opened set.AllNats form.AllNats set.outs-AllNats

pub finite-texts : is_finite set.AllTexts ≡ false
finite-texts = opened set.AllTexts form.AllTexts set.outs-AllTexts

pub finite-sequences : (g : SetForm) → is_finite (set.Sequences g) ≡ false
finite-sequences g = opened (set.Sequences g) (form.Sequences g) (set.outs-Sequences g)

pub finite-subsets : (g : SetForm) → is_finite (set.Subsets g) ≡ is_finite g
finite-subsets g = opened (set.Subsets g) (form.Subsets g) (set.outs-Subsets g)

pub finite-functions : (xs : List Value) (g : SetForm) → is_finite (set.Functions xs g) ≡ is_finite g
finite-functions xs g = opened (set.Functions xs g) (form.Functions xs g) (set.outs-Functions xs g)

pub finite-records : (names : List (List ℕ)) (gs : List SetForm) → is_finite (set.Records names gs) ≡ all_finite gs
finite-records names gs = opened (set.Records names gs) (form.Records names gs) (set.outs-Records names gs) ∙ all-mapped gs

pub finite-tuples : (gs : List SetForm) → is_finite (set.Tuples gs) ≡ all_finite gs
finite-tuples gs = opened (set.Tuples gs) (form.Tuples gs) (set.outs-Tuples gs) ∙ all-mapped gs
