-- The rows of what binds names, by tests of the choices of members.
use Rattle.std.proofs.Common.{◌≡◌, Bool, true, false, ◌&&◌, List, [], ◌∷◌, map, zip, refl, sym, ◌∙◌, ap}
use Rattle.std.specs.Prelude.{Option, Some, None, option_map, option_and_then}
use Rattle.std.specs.List.{list_any, list_all}
use Rattle.tla_values.specs.declared.value.Value.{Value, out-Value}
use Rattle.tla_values.specs.declared.value.Value.TheVariants as value
use Rattle.tla_meaning.specs.declared.op.Op.TheVariants as op
use Rattle.tla_meaning.specs.declared.outcome.Fault.TheVariants.{NoFault}
use Rattle.tla_meaning.specs.declared.outcome.Outcome.{Outcome}
use Rattle.tla_meaning.specs.declared.outcome.Outcome.TheVariants.{Val, Wrong}
use Rattle.tla_meaning.specs.declared.place.Place.{Place}
use Rattle.tla_meaning.specs.Outcomes.{joined, values, strict}
use Rattle.tla_meaning.specs.Operators.{yes_no}
use Rattle.tla_meaning.specs.Shapes.{the_set, the_function}
use Rattle.tla_meaning.specs.Meaning.{argument, bound_table, kept, on_all_truths, truth_of, truths}
use Rattle.outcome_cells.specs.Shown.{Shown, ShownFault}
use Rattle.outcome_cells.proofs.Joining.{any_map, all_map, items_values, unless_value, val_of}

abbrev pub true_here : Option Bool → Bool
true_here None = false
true_here (Some b) = b

abbrev pub there : Option Bool → Bool
there None = false
there (Some b) = true

-- whether a value is TRUE, and whether it is a truth value
abbrev pub is_true : Value → Bool
is_true v = true_here (truth_of (out-Value v))

abbrev pub is_truth : Value → Bool
is_truth v = there (truth_of (out-Value v))

both_so : (a b : Bool) → (a && b) ≡ true → (a ≡ true) × (b ≡ true)
both_so true b e = (refl, e)
both_so false b e = absurd (cc)

truths_are : (vs : List Value) → list_all is_truth vs ≡ true → truths vs ≡ Some (map is_true vs)
truths_are [] e = refl
truths_are (v ∷ vs) e =
    let p = both_so (is_truth v) (list_all is_truth vs) e in
    one (truth_of (out-Value v)) p.0 ∙ ap (option_map (λ (bs : List Bool). is_true v ∷ bs)) (truths_are vs p.1)
  where
    one : (o : Option Bool) → there o ≡ true →
        option_and_then (λ b. option_map (λ bs. b ∷ bs) (truths vs)) o ≡ option_map (λ bs. true_here o ∷ bs) (truths vs)
    one None e = absurd (cc)
    one (Some b) e = refl

on_truths : (p : Place) (f : List Bool → Outcome) (vs : List Value) → list_all is_truth vs ≡ true →
    on_all_truths p f vs ≡ f (map is_true vs)
on_truths p f vs e = ap (λ (o : Option (List Bool)). elim o [ None ↦ Wrong p | Some bs ↦ f bs ]) (truths_are vs e)

-- w and b: whether some choice is Wrong, and whether some is Big and none is Wrong
module _ (w b : Bool) (g : List Value → Outcome) (vss : List (List Value))
    (fault : ShownFault w b (joined (map g vss))) where
  -- the bodies' values
  abbrev pub results : List Value
  results = map (λ vs. val_of (g vs)) vss

  -- what is asked of the bodies' values: only where there is no fault
  abbrev pub Calm : Type 0
  Calm = joined (map g vss) ≡ NoFault

  row : (p : Place) (f : List Bool → Outcome) → Calm → list_all is_truth results ≡ true →
      on_all_truths p f (values (map g vss)) ≡ f (map is_true results)
  row p f e k = ap (on_all_truths p f) (items_values g vss e) ∙ on_truths p f results k

  pub some_shown : (p : Place) (t : Bool) → (Calm → list_all is_truth results ≡ true) →
      (Calm → t ≡ list_any (λ vs. is_true (val_of (g vs))) vss) →
      Shown w b (value.Bool t) (strict (map g vss) (bound_table p op.Exists vss))
  some_shown p t kinds is =
      unless_value w b (value.Bool t) (joined (map g vss)) (bound_table p op.Exists vss (values (map g vss))) fault
      (λ e.
      row p (λ bs. yes_no (list_any (λ b. b) bs)) e (kinds e)
      ∙ ap yes_no (any_map (λ b. b) is_true results ∙ any_map is_true (λ vs. val_of (g vs)) vss ∙ sym (is e)))

  pub every_shown : (p : Place) (t : Bool) → (Calm → list_all is_truth results ≡ true) →
      (Calm → t ≡ list_all (λ vs. is_true (val_of (g vs))) vss) →
      Shown w b (value.Bool t) (strict (map g vss) (bound_table p op.Forall vss))
  every_shown p t kinds is =
      unless_value w b (value.Bool t) (joined (map g vss)) (bound_table p op.Forall vss (values (map g vss))) fault
      (λ e.
      row p (λ bs. yes_no (list_all (λ b. b) bs)) e (kinds e)
      ∙ ap yes_no (all_map (λ b. b) is_true results ∙ all_map is_true (λ vs. val_of (g vs)) vss ∙ sym (is e)))

  pub kept_shown : (p : Place) (v : Value) → (Calm → list_all is_truth results ≡ true) →
      (Calm → v ≡ the_set (kept vss (map is_true results))) →
      Shown w b v (strict (map g vss) (bound_table p op.Filter vss))
  kept_shown p v kinds is =
      unless_value w b v (joined (map g vss)) (bound_table p op.Filter vss (values (map g vss))) fault (λ e.
      row p (λ bs. Val (the_set (kept vss bs))) e (kinds e) ∙ ap Val (sym (is e)))

  pub images_shown : (p : Place) (v : Value) → (Calm → v ≡ the_set results) →
      Shown w b v (strict (map g vss) (bound_table p op.MapTo vss))
  images_shown p v is =
      unless_value w b v (joined (map g vss)) (bound_table p op.MapTo vss (values (map g vss))) fault (λ e.
      ap (λ (vs : List Value). Val (the_set vs)) (items_values g vss e) ∙ ap Val (sym (is e)))

  pub function_shown : (p : Place) (v : Value) → (Calm → v ≡ the_function (zip (map argument vss) results)) →
      Shown w b v (strict (map g vss) (bound_table p op.Lambda vss))
  function_shown p v is =
      unless_value w b v (joined (map g vss)) (bound_table p op.Lambda vss (values (map g vss))) fault (λ e.
      ap (λ (vs : List Value). Val (the_function (zip (map argument vss) vs))) (items_values g vss e)
      ∙ ap Val (sym (is e)))
