-- Steps of the loops of an evaluation.
use Rattle.std.specs.Prelude.{IfOk}
use Rattle.std.proofs.Common.{Result, ◌≡◌, ℕ, suc, ◌+◌, ◌<◌, ◌≤◌, Bool, true, false, List, [], ◌∷◌, ◌++◌, map, drop, get_or, length, refl, ap, ◌∙◌, sym, subst, drop-cons, add-one, append-nil, append_assoc, if◌then◌else◌}
use Rattle.tla_evaluator.proofs.Words.{Big, Fault, Outcome, Place, Val, Value, Wrong, both_assoc, both_unit, by_truth, choose, drop_of_length-le, join_faults, joined, outs-Bool, values, yes_no}
use Rattle.tla_values.specs.declared.value.Value.TheOpen as layer

-- a truth value decides
pub chosen : (b : Bool) (p : Place) (x y : Outcome) → choose p (yes_no b) x y ≡ (if b then x else y)
chosen b p x y = ap (λ l. by_truth p l x y) (outs-Bool b) ∙ by_case b
  where
    by_case : (b : Bool) → by_truth p (layer.Bool b) x y ≡ (if b then x else y)
    by_case true = refl
    by_case false = refl

pub via : {E : Type 0} (r : Result Outcome E) {x y : Outcome} → x ≡ y → IfOk r (λ o. o ≡ x) → IfOk r (λ o. o ≡ y)
via r e h = subst (λ z. IfOk r (λ o. o ≡ z)) e h

-- ---- one more item

pub map_next : {X Y : Type 0} (f : X → Y) (xs : List X) (i : ℕ) (x : X) (y : Y) → i < length xs → x ≡ get_or xs i x → y ≡ f x →
    map f (drop i xs) ≡ y ∷ map f (drop (i + 1) xs)
map_next f xs i x y lt is v =
    ap (map f) (drop-cons xs i x lt)
    ∙ ap (λ z. f z ∷ map f (drop (suc i) xs)) (sym is)
    ∙ ap (λ z. z ∷ map f (drop (suc i) xs)) (sym v)
    ∙ ap (λ n. y ∷ map f (drop n xs)) (sym (add-one i))

-- one more joins a fault: of outcomes, or of forms
module _ {X Y : Type 0} (T : List Y → Fault) (h : Y → Fault) (step : (y : Y) (ys : List Y) → T (y ∷ ys) ≡ join_faults (h y) (T ys)) (f : X → Y) (xs : List X) (i : ℕ) where
  pub join_next : (x : X) (y : Y) (g k : Fault) → i < length xs → x ≡ get_or xs i x → y ≡ f x → k ≡ join_faults g (h y) →
      join_faults g (T (map f (drop i xs))) ≡ T (map f xs) → join_faults k (T (map f (drop (i + 1) xs))) ≡ T (map f xs)
  join_next x y g k lt is v e old =
      let more : List Y = map f (drop (i + 1) xs) in
      ap (λ z. join_faults z (T more)) e ∙ both_assoc g (h y) (T more)
      ∙ ap (join_faults g) (sym (step y more) ∙ ap T (sym (map_next f xs i x y lt is v))) ∙ old

values_cons : (o : Outcome) (os : List Outcome) → values (o ∷ os) ≡ values (o ∷ []) ++ values os
values_cons (Val v) os = refl
values_cons (Wrong p) os = refl
values_cons (Big p) os = refl

module _ {X : Type 0} (f : X → Outcome) (xs : List X) (i : ℕ) where
  pub values_next : (x : X) (o : Outcome) (vs ws : List Value) → i < length xs → x ≡ get_or xs i x → o ≡ f x → ws ≡ vs ++ values (o ∷ []) →
      vs ++ values (map f (drop i xs)) ≡ values (map f xs) → ws ++ values (map f (drop (i + 1) xs)) ≡ values (map f xs)
  values_next x o vs ws lt is v e k =
      let more : List Outcome = map f (drop (i + 1) xs) in
      ap (λ z. z ++ values more) e ∙ append_assoc vs (values (o ∷ [])) (values more)
      ∙ ap (λ z. vs ++ z) (sym (values_cons o more) ∙ ap values (sym (map_next f xs i x o lt is v))) ∙ k

  pub fault_done : (g : Fault) → length xs ≤ i → join_faults g (joined (map f (drop i xs))) ≡ joined (map f xs) → g ≡ joined (map f xs)
  fault_done g le k = sym (both_unit g) ∙ ap (λ ys. join_faults g (joined (map f ys))) (sym (drop_of_length-le xs le)) ∙ k

  pub values_done : (vs : List Value) → length xs ≤ i → vs ++ values (map f (drop i xs)) ≡ values (map f xs) → vs ≡ values (map f xs)
  values_done vs le k = sym (append-nil vs) ∙ ap (λ ys. vs ++ values (map f ys)) (sym (drop_of_length-le xs le)) ∙ k
