-- Updates along a path: an update at the first index whose new value is an update at the rest of the path.
use Rattle.std.proofs.Common.{◌≡◌, Bool, true, false, List, [], ◌∷◌, refl, sym, ◌∙◌, ap, subst, Option, Some, None, if◌then◌else◌}
use Rattle.std.specs.Ordering.{is_eq}
use Rattle.tla_values.specs.Order.{Layer, value_cmp, same_value}
use Rattle.tla_values.specs.Sets.{Normal, apply, override_at, arguments}
use Rattle.tla_values.specs.declared.value.Value.{Value, out-Value, roll-Value, roll-out-Value}
use Rattle.tla_values.specs.declared.value.Value.TheVariants as value
use Rattle.tla_values.specs.declared.value.Value.TheOpen as layer
use Rattle.tla_values.proofs.NormalLemmas.{fun_order}
use Rattle.tla_values.proofs.Extensional.{same_equal}
use Rattle.tla_values.proofs.SetLaws.{Rising, Above, rising_from}
use Rattle.tla_meaning.specs.declared.place.Place.{Place}
use Rattle.tla_meaning.specs.declared.outcome.Outcome.{Outcome}
use Rattle.tla_meaning.specs.declared.outcome.Outcome.TheVariants.{Val, Wrong, Big}
use Rattle.tla_meaning.specs.Outcomes.{with_value}
use Rattle.tla_meaning.specs.Meaning.{Reached, At, Outside, NoFunction, at_path, set_path, updated, step_into, go_on, reached_at, put_at}
use Rattle.kernel_reduction.proofs.Tying.{some_same}

-- ---- the value that stands at an argument, put there again

none_there : (i old : Value) (k : Value) (ps : List (Value × Value)) → i ≡ k → Above k (arguments ps) →
    override_at ps i old ≡ ps
none_there i old k [] e h = refl
none_there i old k (q ∷ ps) e h =
    let other : same_value i q.0 ≡ false = ap (λ z. is_eq (value_cmp z q.0)) e ∙ ap is_eq h.0 in
    λ j. (if other j then (q.0, old) else q) ∷ none_there i old k ps e h.1 j

override_kept : (ps : List (Value × Value)) → Rising (arguments ps) → (i old : Value) → apply ps i ≡ Some old →
    override_at ps i old ≡ ps
override_kept [] h i old q = refl
override_kept (p ∷ ps) h i old q = by (same_value i p.0) refl q (override_kept ps h.1 i old)
  where
    by : (b : Bool) → same_value i p.0 ≡ b → (if b then Some p.1 else apply ps i) ≡ Some old →
        (apply ps i ≡ Some old → override_at ps i old ≡ ps) →
        override_at (p ∷ ps) i old ≡ p ∷ ps
    by true e q rec =
        let there : p.1 ≡ old = some_same q in
        (λ j. (if e j then (p.0, old) else p) ∷ none_there i old p.0 ps (same_equal i p.0 e) h.0 j)
        ∙ ap (λ v. (p.0, v) ∷ ps) (sym there)
    by false e q rec = λ j. (if e j then (p.0, old) else p) ∷ rec q j

fun_of : (v : Value) (ps : List (Value × Value)) → out-Value v ≡ layer.Fun ps → value.Fun ps ≡ v
fun_of v ps e = sym (sym (roll-out-Value v) ∙ ap roll-Value e ∙ value.rolls-Fun ps)

-- ---- one step of a path

module _ (p : Place) (new : Value → Outcome) (i : Value) (is : List Value) (f : Value) where
  abbrev inner_of : Value → Outcome
  inner_of old = updated p ((is, new) ∷ []) old

  -- an update at the first index, by what stands there
  abbrev by_inner : List (Value × Value) → Option Value → Outcome
  by_inner ps o =
      elim o as
      (λ _. Outcome) [ None ↦ Val f | Some old ↦ with_value (inner_of old) (λ v. Val (value.Fun (override_at ps i v))) ]

  abbrev put_found : List (Value × Value) → (Value → Value) → Option Value → Value
  put_found ps change o = elim o [ None ↦ f | Some v ↦ value.Fun (override_at ps i (change v)) ]

  -- an update along the whole path
  abbrev by_path : List (Value × Value) → Option Value → Outcome
  by_path ps o = elim (go_on (reached_at o) (λ v. at_path v is)) as (λ _. Outcome) [
    | At old ↦ with_value (new old) (λ n. Val (put_found ps (set_path is n) o))
    | Outside ↦ Val f
    | NoFunction ↦ Wrong p
  ]

  abbrev whole : Layer Value → Outcome
  whole l = elim (go_on (step_into l i) (λ v. at_path v is)) as (λ _. Outcome) [
    | At old ↦ with_value (new old) (λ n. Val (put_at l i (set_path is n) f))
    | Outside ↦ Val f
    | NoFunction ↦ Wrong p
  ]

  abbrev pub one_step : Layer Value → Outcome
  one_step l = elim l as (λ _. Outcome) [ layer.Fun ps ↦ by_inner ps (apply ps i) | _ ↦ Wrong p ]

  reached : (ps : List (Value × Value)) → out-Value f ≡ layer.Fun ps → Rising (arguments ps) → (o : Option Value) →
      apply ps i ≡ o → by_inner ps o ≡ by_path ps o
  reached ps e h None q = refl
  reached ps e h (Some old) q = by (at_path old is)
    where
      at_end : (o : Outcome) →
          with_value (with_value o (λ n. Val (set_path is n old))) (λ v. Val (value.Fun (override_at ps i v)))
          ≡ with_value o (λ n. Val (value.Fun (override_at ps i (set_path is n old))))
      at_end (Val n) = refl
      at_end (Wrong r) = refl
      at_end (Big r) = refl

      by : (r : Reached) →
          with_value (elim r as
          (λ _. Outcome) [
            | At u ↦ with_value (new u)
                (λ n. Val (set_path is n old))
            | Outside ↦ Val old
            | NoFunction ↦ Wrong p
          ])
          (λ v. Val (value.Fun (override_at ps i v)))
          ≡ elim r as (λ _.
          Outcome) [
            | At u ↦ with_value (new u)
                (λ n. Val (value.Fun (override_at ps i (set_path is n old))))
            | Outside ↦ Val f
            | NoFunction ↦ Wrong p
          ]
      by (At u) = at_end (new u)
      by Outside = ap Val (ap value.Fun (override_kept ps h i old q) ∙ fun_of f ps e)
      by NoFunction = refl

  pub path_step : Normal f → one_step (out-Value f) ≡ updated p ((i ∷ is, new) ∷ []) f
  path_step h = by (out-Value f) refl
    where
      by : (l : Layer Value) → out-Value f ≡ l → one_step l ≡ whole l
      by (layer.Fun ps) e =
          reached ps e (rising_from (arguments ps) (fun_order ps (subst Normal (sym (fun_of f ps e)) h)))
          (apply ps i) refl
      by (layer.Bool x) e = refl
      by (layer.Int x) e = refl
      by (layer.Text x) e = refl
      by (layer.Set x) e = refl
