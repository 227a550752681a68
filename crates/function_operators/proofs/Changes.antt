-- What EXCEPT gives, over plain values.
use Rattle.std.proofs.Common.{◌≡◌, Bool, true, false, not, ◌&&◌, List, [], ◌∷◌, Option, Some, None, refl, ap, ◌∙◌}
use Rattle.std.proofs.Common.{sym, subst}
use Rattle.std.specs.Prelude.{if◌then◌else◌}
use Rattle.tla_values.specs.Order.{Layer, same_value}
use Rattle.tla_values.specs.Sets.{apply, override_at}
use Rattle.tla_values.specs.declared.value.Value.{Value, out-Value}
use Rattle.tla_values.specs.declared.value.Value.TheVariants as value
use Rattle.tla_values.specs.declared.value.Value.TheOpen as layer
use Rattle.tla_meaning.specs.declared.outcome.Outcome.{Outcome}
use Rattle.tla_meaning.specs.declared.outcome.Outcome.TheVariants.{Val, Wrong, Big}
use Rattle.tla_meaning.specs.declared.place.Place.{Place}
use Rattle.tla_meaning.specs.Outcomes.{with_value}
use Rattle.tla_meaning.specs.Meaning.{Reached, At, Outside, NoFunction, reached_at, step_into, go_on, at_path, put_at}
use Rattle.tla_meaning.specs.Meaning.{set_path, updated}
use Rattle.cell_merge.specs.Arrows.{pairs_of}
use Rattle.cell_merge.specs.Partial.{Tells}
use Rattle.outcome_cells.specs.Shown.{Shown}
use Rattle.function_operators.specs.Updates.{is_outside}
use Rattle.function_operators.proofs.Rows.{IsMapping, opened}

abbrev Pair : Type 0
Pair = Value × Value

-- an override outside of the domain changes nothing
override_outside : (ps : List Pair) (i v : Value) → apply ps i ≡ None → override_at ps i v ≡ ps
override_outside [] i v e = refl
override_outside (p ∷ ps) i v e = split (same_value i p.0) refl e (λ k. override_outside ps i v k)
  where
    split : (b : Bool) → same_value i p.0 ≡ b → (if b then Some p.1 else apply ps i) ≡ None →
        (apply ps i ≡ None → override_at ps i v ≡ ps) →
        override_at (p ∷ ps) i v ≡ p ∷ ps
    split true is h rest = absurd (cc)
    split false is h rest =
        ap (λ (b : Bool). (if b then (p.0, v) else p) ∷ override_at ps i v) is ∙ ap (λ (l : List Pair). p ∷ l) (rest h)

-- the meaning's update, by what is found
abbrev by_found : (Value → Outcome) → List Pair → Value → Value → Option Value → Outcome
by_found right ps i f None = Val f
by_found right ps i f (Some old) = with_value (right old) (λ v. Val (value.Fun (override_at ps i v)))

abbrev by_reach : Place → (Value → Outcome) → (Value → Value) → Value → Reached → Outcome
by_reach p right change f r = elim r [
  | At old ↦ with_value (right old) (λ v. updated p [] (change v))
  | Outside ↦ updated p [] f
  | NoFunction ↦ Wrong p
]

abbrev put_by : List Pair → Value → Value → Value → Option Value → Value
put_by ps i f v o = elim o [ None ↦ f | Some u ↦ value.Fun (override_at ps i v) ]

one_found : (p : Place) (right : Value → Outcome) (ps : List Pair) (i f : Value) (o : Option Value) →
    by_reach p right (λ v. put_by ps i f v o) f (go_on (reached_at o) (λ v. at_path v [])) ≡ by_found right ps i f o
one_found p right ps i f None = refl
one_found p right ps i f (Some u) = refl

update_row : (p : Place) (right : Value → Outcome) (i f : Value) (ps : List Pair) (o : Option Value) →
    out-Value f ≡ layer.Fun ps → apply ps i ≡ o →
    updated p ((i ∷ [], right) ∷ []) f ≡ by_found right ps i f o
update_row p right i f ps o h e =
    ap (λ (l : Layer Value). by_reach p right (λ v. put_at l i (set_path [] v) f) f
    (go_on (step_into l i) (λ v. at_path v []))) h
    ∙ (ap (λ (r : Option Value). by_reach p right (λ v. put_by ps i f v r) f
    (go_on (reached_at r) (λ v. at_path v []))) e
    ∙ one_found p right ps i f o)

value_one : (v w : Value) → Val v ≡ Val w → v ≡ w
value_one v w e = cc

-- at a value that is put there, by its outcome
put_shown : (right : Outcome) (wr bg : Bool) (v made : Value) (ps : List Pair) (i : Value) → Shown wr bg v right →
    made ≡ value.Fun (override_at ps i v) →
    Shown wr bg made (with_value right (λ u. Val (value.Fun (override_at ps i u))))
put_shown (Val u) wr bg v made ps i h e = record {
  wrong = h.wrong;
  big = h.big;
  value = λ x k. e ∙ (ap (λ (y : Value). value.Fun (override_at ps i y)) (h.value u refl) ∙ value_one _ x k);
}
put_shown (Wrong q) wr bg v made ps i h e = record { wrong = h.wrong; big = h.big; value = λ x k. absurd (cc) }
put_shown (Big q) wr bg v made ps i h e = record { wrong = h.wrong; big = h.big; value = λ x k. absurd (cc) }

-- with the new cells' literals where something is found there
found_shown : (right : Value → Outcome) (out wr bg : Bool) (v made f i : Value) (ps : List Pair) (o : Option Value) →
    f ≡ value.Fun ps → apply ps i ≡ o → made ≡ value.Fun (override_at ps i v) → out ≡ is_outside (reached_at o) →
    ((u : Value) → o ≡ Some u → Shown wr bg v (right u)) →
    Shown (not out && wr) (not out && bg) made (by_found right ps i f o)
found_shown right out wr bg v made f i ps None is e m h k = record {
  wrong = ap (λ (b : Bool). not b && wr) h;
  big = ap (λ (b : Bool). not b && bg) h;
  value = λ x j. m ∙ (ap value.Fun (override_outside ps i v e) ∙ (sym is ∙ value_one f x j));
}
found_shown right out wr bg v made f i ps (Some u) is e m h k =
    subst (λ (b : Bool). Shown (not b && wr) (not b && bg) made (by_found right ps i f (Some u))) (sym h)
    (put_shown (right u) wr bg v made ps i (k u refl) m)

-- so the cells show the update
pub update_shown : (p : Place) (right : Value → Outcome) (out wr bg : Bool) (v made f i : Value) → IsMapping f →
    made ≡ value.Fun (override_at (pairs_of f) i v) → out ≡ is_outside (step_into (out-Value f) i) →
    ((u : Value) → step_into (out-Value f) i ≡ At u → Shown wr bg v (right u)) →
    Shown (not out && wr) (not out && bg) made (updated p ((i ∷ [], right) ∷ []) f)
update_shown p right out wr bg v made f i is m outside new =
    let reach : step_into (out-Value f) i ≡ reached_at (apply (pairs_of f) i) =
    ap (λ (l : Layer Value). step_into l i) (opened f is) in
    subst (Shown (not out && wr) (not out && bg) made)
    (sym (update_row p right i f (pairs_of f) (apply (pairs_of f) i) (opened f is) refl))
    (found_shown right out wr bg v made f i (pairs_of f) (apply (pairs_of f) i) is refl m
    (outside ∙ ap is_outside reach)
    (λ u e. new u (reach ∙ ap reached_at e)))

-- where the index is outside everywhere, nothing changes
pub outside_row : (p : Place) (right : Value → Outcome) (f i : Value) → IsMapping f →
    is_outside (step_into (out-Value f) i) ≡ true →
    updated p ((i ∷ [], right) ∷ []) f ≡ Val f
outside_row p right f i is outside =
    update_row p right i f (pairs_of f) (apply (pairs_of f) i) (opened f is) refl
    ∙ by (apply (pairs_of f) i) (sym (ap (λ (l : Layer Value). is_outside (step_into l i)) (opened f is)) ∙ outside)
  where
    by : (o : Option Value) → is_outside (reached_at o) ≡ true → by_found right (pairs_of f) i f o ≡ Val f
    by None e = refl
    by (Some u) e = absurd (cc)

-- what stands there, by a cell with its literal
pub reach_tells : (f i v : Value) (out : Bool) (o : Option Value) → IsMapping f → apply (pairs_of f) i ≡ o →
    Tells out v o →
    step_into (out-Value f) i ≡ (if out then Outside else At v)
reach_tells f i v out o is e h = ap (λ (l : Layer Value). step_into l i) (opened f is) ∙ (ap reached_at e ∙ by o h)
  where
    by : (o : Option Value) → Tells out v o → reached_at o ≡ (if out then Outside else At v)
    by None k = sym (ap (λ (b : Bool). if b then Outside else At v) k)
    by (Some u) k = ap At (sym k.1) ∙ sym (ap (λ (b : Bool). if b then Outside else At v) k.0)
