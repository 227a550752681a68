-- A path by its choices.
use Rattle.std.proofs.Common.{◌≡◌, ◌⊎◌, inl, inr, ◌↔◌, Bool, true, false, ◌||◌, List, [], ◌∷◌, ◌++◌, map, refl, sym, ◌∙◌, ap, subst, Option, Some, None, if◌then◌else◌}
use Rattle.tla_values.specs.Order.{Layer}
use Rattle.tla_values.specs.declared.value.Value.{Value, out-Value, roll-Value, roll-out-Value}
use Rattle.tla_meaning.specs.declared.place.Place.{Place}
use Rattle.tla_meaning.specs.declared.job.State.{State}
use Rattle.tla_meaning.specs.declared.outcome.Fault.{Fault}
use Rattle.tla_meaning.specs.declared.outcome.Fault.TheVariants.{NoFault, IsWrong, IsBig}
use Rattle.tla_meaning.specs.declared.outcome.Outcome.{Outcome}
use Rattle.tla_meaning.specs.declared.outcome.Outcome.TheVariants.{Val, Wrong, Big}
use Rattle.tla_meaning.specs.Outcomes.{join_faults, least, before, fault_of, joined, values}
use Rattle.tla_meaning.specs.Shapes.{all_set_items, choices, with_each}
use Rattle.tla_meaning.specs.Operators.{yes_no}
use Rattle.tla_meaning.specs.Numbers.{Width}
use Rattle.tla_meaning.specs.declared.actions.Effect.{Effect}
use Rattle.kernel_trees.specs.Paths.{Step, Holds, Branch, Choice, numbers, sets, ways}
use Rattle.tla_meaning.specs.Scopes.{Scope, bind}
use Rattle.tla_meaning.specs.Actions.{fails_by, is_true, effect_of, effects_or, guard, exists_effect, counts}
use Rattle.tla_meaning.proofs.Joins.{both_comm, both_same, both_assoc}
use Rattle.tla_meaning.proofs.Views.{false≢true}
use Rattle.kernel_trees.specs.declared.kernel.Ker.{Ker}
use Rattle.kernel_trees.specs.Trees.{names_of, ker_val, ker_effect}
use Rattle.kernel_trees.specs.Ways.{Way}
use Rattle.kernel_trees.specs.inner.Runs.{done, and_then, led, go, way_effect, ways_effect}
use Rattle.kernel_trees.specs.inner.Separate.{separate}
use Rattle.kernel_trees.specs.Picks.{IsOneOf, AreIn, Picked, kind_fault, guard_fault, sets_fault, IsFault, HoldsFor, MeetsFor, IsJoin, IsByPaths}
use Rattle.kernel_trees.proofs.Effects.{effect}
use Rattle.kernel_trees.proofs.LawOfPaths.{law_of_paths}
use Rattle.std.specs.Prelude.{IsTrue}
use Rattle.tla_values.specs.declared.value.Value.TheVariants as value
use Rattle.tla_values.specs.declared.value.Value.TheOpen as layer
use Rattle.tla_meaning.specs.declared.actions.Assignable.{Assignable}

-- ---- an effect by what holds and by what is met

pub record Says (e : Effect) (H : Type 0) (M : Fault → Type 0) : Type 0 where
  pub holds : (e.holds ≡ true) ↔ H
  pub fault : IsJoin e.fault M

-- ---- joins

least_one : (p q : Place) (b : Bool) → before q p ≡ b → ((if b then q else p) ≡ p) ⊎ ((if b then q else p) ≡ q)
least_one p q true e = inr refl
least_one p q false e = inl refl

by_place : (F : Place → Fault) (p q r : Place) → (r ≡ p) ⊎ (r ≡ q) → (F r ≡ F p) ⊎ (F r ≡ F q)
by_place F p q r (inl e) = inl (ap F e)
by_place F p q r (inr e) = inr (ap F e)

-- a join is one of the two
pub both_one : (f g : Fault) → (join_faults f g ≡ f) ⊎ (join_faults f g ≡ g)
both_one NoFault g = inr refl
both_one (IsWrong p) NoFault = inl refl
both_one (IsWrong p) (IsWrong q) = by_place IsWrong p q (least p q) (least_one p q (before q p) refl)
both_one (IsWrong p) (IsBig q) = inl refl
both_one (IsBig p) NoFault = inl refl
both_one (IsBig p) (IsWrong q) = inr refl
both_one (IsBig p) (IsBig q) = by_place IsBig p q (least p q) (least_one p q (before q p) refl)

no_join : (M : Fault → Type 0) → ((g : Fault) → M g → ⊥) → IsJoin NoFault M
no_join M h = record { counts = λ g n m. absurd (h g m); is_met = inl refl }

pub join_same : {f : Fault} {M N : Fault → Type 0} → ((g : Fault) → M g → N g) → ((g : Fault) → IsFault g → N g → M g) → IsJoin f M → IsJoin f N
join_same {f = f} {M = M} {N = N} h k j = record { counts = λ g n m. j.counts g n (k g n m); is_met = by j.is_met }
  where
    by : (f ≡ NoFault) ⊎ M f → (f ≡ NoFault) ⊎ N f
    by (inl e) = inl e
    by (inr m) = inr (h f m)

join_both : {f g : Fault} {M N : Fault → Type 0} → IsJoin f M → IsJoin g N → IsJoin (join_faults f g) (λ x. M x ⊎ N x)
join_both {f = f} {g = g} {M = M} {N = N} j k = record { counts = count; is_met = met (both_one f g) j.is_met k.is_met }
  where
    count : (x : Fault) → IsFault x → M x ⊎ N x → join_faults x (join_faults f g) ≡ join_faults f g
    count x n (inl m) = sym (both_assoc x f g) ∙ ap (λ y. join_faults y g) (j.counts x n m)
    count x n (inr m) =
        sym (both_assoc x f g) ∙ ap (λ y. join_faults y g) (both_comm x f) ∙ both_assoc f x g ∙ ap (join_faults f) (k.counts x n m)

    met : (join_faults f g ≡ f) ⊎ (join_faults f g ≡ g) → (f ≡ NoFault) ⊎ M f → (g ≡ NoFault) ⊎ N g → (join_faults f g ≡ NoFault) ⊎ (M (join_faults f g) ⊎ N (join_faults f g))
    met (inl e) (inl a) c = inl (e ∙ a)
    met (inl e) (inr a) c = inr (inl (subst M (sym e) a))
    met (inr e) c (inl a) = inl (e ∙ a)
    met (inr e) c (inr a) = inr (inr (subst N (sym e) a))

one_join : (f : Fault) (M : Fault → Type 0) → M f → ((g : Fault) → IsFault g → M g → f ≡ g) → IsJoin f M
one_join f M m h = record { counts = λ g n x. ap (λ y. join_faults y f) (sym (h g n x)) ∙ both_same f; is_met = inr m }

not_none : {f : Fault} → NoFault ≡ f → IsFault f → ⊥
not_none e n = subst IsFault (sym e) n

-- ---- truth values

pub wrong≢val : {p : Place} {v : Value} → Wrong p ≡ Val v → ⊥
wrong≢val e = cc

pub big≢val : {p : Place} {v : Value} → Big p ≡ Val v → ⊥
big≢val e = cc

pub val_same : {v u : Value} → Val v ≡ Val u → v ≡ u
val_same e = cc

truth_rolls : (v : Value) (b : Bool) → out-Value v ≡ layer.Bool b → v ≡ value.Bool b
truth_rolls v b e = sym (roll-out-Value v) ∙ ap roll-Value e ∙ value.rolls-Bool b

pub truth_opens : (v : Value) (b : Bool) → Val v ≡ yes_no b → out-Value v ≡ layer.Bool b
truth_opens v b e = ap out-Value (val_same e) ∙ value.outs-Bool b

abbrev pub bool_layer : Bool → Layer Value
bool_layer b = layer.Bool b

pub differ : (a b : Bool) → bool_layer a ≡ bool_layer b → a ≡ b
differ a b e = cc

-- a value of another kind is no truth value
abbrev IsTruthLayer : Layer Value → Bool
IsTruthLayer (layer.Bool b) = true
IsTruthLayer l = false

no_truth_at : (v : Value) (l : Layer Value) → out-Value v ≡ l → IsTruthLayer l ≡ false → (b : Bool) → Val v ≡ yes_no b → ⊥
no_truth_at v l q n b h = false≢true (sym n ∙ ap IsTruthLayer (sym q ∙ truth_opens v b h))

-- ---- one operand

says_same : {e : Effect} {H K : Type 0} {M N : Fault → Type 0} → (H → K) → (K → H) → ((g : Fault) → M g → N g) → ((g : Fault) → IsFault g → N g → M g) →
    Says e H M → Says e K N
says_same h k m n x = record { holds = (λ t. h (x.holds.0 t), λ y. x.holds.1 (k y)); fault = join_same m n x.fault }

fails : (f : Fault) (H : Type 0) (M : Fault → Type 0) → (H → ⊥) → M f → ((g : Fault) → IsFault g → M g → f ≡ g) → Says (fails_by f) H M
fails f H M h m n = record { holds = (λ t. absurd (false≢true t), λ x. absurd (h x)); fault = one_join f M m n }

idle : (v : Value) (H : Type 0) (M : Fault → Type 0) → (Val v ≡ yes_no true → ⊥) →
    Says (fails_by NoFault) ((Val v ≡ yes_no true) × H) (λ f. (NoFault ≡ f) ⊎ ((Val v ≡ yes_no true) × M f))
idle v H M h = fails NoFault _ _ (λ x. h x.0) (inl refl) other
  where
    other : (g : Fault) → IsFault g → (NoFault ≡ g) ⊎ ((Val v ≡ yes_no true) × M g) → NoFault ≡ g
    other g n (inl e) = e
    other g n (inr m) = absurd (h m.0)

operand_at : (v : Value) (e : Effect) (H : Type 0) (M : Fault → Type 0) → Says e H M → (l : Layer Value) → out-Value v ≡ l →
    Says (and_then (effect (is_true l) NoFault) e) ((Val v ≡ yes_no true) × H) (λ f. (NoFault ≡ f) ⊎ ((Val v ≡ yes_no true) × M f))
operand_at v e H M x (layer.Bool true) q =
    let here : Val v ≡ yes_no true = ap Val (truth_rolls v true q) in
    says_same (λ h. (here, h)) (λ h. h.1) (λ g m. inr (here, m)) back x
  where
    back : (g : Fault) → IsFault g → (NoFault ≡ g) ⊎ ((Val v ≡ yes_no true) × M g) → M g
    back g n (inl e) = absurd (not_none e n)
    back g n (inr m) = m.1
operand_at v e H M x (layer.Bool false) q =
    fails NoFault _ _ (λ h. not_true h.0) (inl refl) other
  where
    not_true : Val v ≡ yes_no true → ⊥
    not_true h = false≢true (differ false true (sym q ∙ truth_opens v true h))

    other : (g : Fault) → IsFault g → (NoFault ≡ g) ⊎ ((Val v ≡ yes_no true) × M g) → NoFault ≡ g
    other g n (inl e) = e
    other g n (inr m) = absurd (not_true m.0)
operand_at v e H M x (layer.Int i) q = idle v H M (no_truth_at v (layer.Int i) q refl true)
operand_at v e H M x (layer.Text a) q = idle v H M (no_truth_at v (layer.Text a) q refl true)
operand_at v e H M x (layer.Set xs) q = idle v H M (no_truth_at v (layer.Set xs) q refl true)
operand_at v e H M x (layer.Fun ps) q = idle v H M (no_truth_at v (layer.Fun ps) q refl true)

-- a fault of an operand
faulty : (f : Fault) (o : Outcome) (b : Bool) (H : Type 0) (M : Fault → Type 0) → (o ≡ yes_no b → ⊥) →
    Says (fails_by f) ((o ≡ yes_no b) × H) (λ g. (f ≡ g) ⊎ ((o ≡ yes_no b) × M g))
faulty f o b H M h = fails f _ _ (λ x. h x.0) (inl refl) other
  where
    other : (g : Fault) → IsFault g → (f ≡ g) ⊎ ((o ≡ yes_no b) × M g) → f ≡ g
    other g n (inl e) = e
    other g n (inr m) = absurd (h m.0)

operand : (o : Outcome) (e : Effect) (H : Type 0) (M : Fault → Type 0) → Says e H M →
    Says (and_then (effect_of o) e) ((o ≡ yes_no true) × H) (λ f. (fault_of o ≡ f) ⊎ ((o ≡ yes_no true) × M f))
operand (Val v) e H M x = operand_at v e H M x (out-Value v) refl
operand (Wrong p) e H M x = faulty (IsWrong p) (Wrong p) true H M wrong≢val
operand (Big p) e H M x = faulty (IsBig p) (Big p) true H M big≢val

-- ---- a guard

passes : (v : Value) (b : Bool) (e : Effect) (H : Type 0) (M : Fault → Type 0) → Val v ≡ yes_no b → Says e H M →
    Says e ((Val v ≡ yes_no b) × H) (λ f. (NoFault ≡ f) ⊎ ((Val v ≡ yes_no b) × M f))
passes v b e H M here x = says_same (λ h. (here, h)) (λ h. h.1) (λ g m. inr (here, m)) back x
  where
    back : (g : Fault) → IsFault g → (NoFault ≡ g) ⊎ ((Val v ≡ yes_no b) × M g) → M g
    back g n (inl e) = absurd (not_none e n)
    back g n (inr m) = m.1

other_truth : (v : Value) (a b : Bool) → out-Value v ≡ layer.Bool a → (a ≡ b → ⊥) → Val v ≡ yes_no b → ⊥
other_truth v a b q n h = n (differ a b (sym q ∙ truth_opens v b h))

true≢false' : true ≡ false → ⊥
true≢false' e = cc

guard_yes : (p : Place) (v : Value) (e : Effect) (H : Type 0) (M : Fault → Type 0) → Says e H M → (l : Layer Value) → out-Value v ≡ l →
    Says (guard p l e (fails_by NoFault)) ((Val v ≡ yes_no true) × H) (λ f. (kind_fault p l ≡ f) ⊎ ((Val v ≡ yes_no true) × M f))
guard_yes p v e H M x (layer.Bool true) q = passes v true e H M (ap Val (truth_rolls v true q)) x
guard_yes p v e H M x (layer.Bool false) q = faulty NoFault (Val v) true H M (other_truth v false true q false≢true)
guard_yes p v e H M x (layer.Int i) q = faulty (IsWrong p) (Val v) true H M (no_truth_at v (layer.Int i) q refl true)
guard_yes p v e H M x (layer.Text a) q = faulty (IsWrong p) (Val v) true H M (no_truth_at v (layer.Text a) q refl true)
guard_yes p v e H M x (layer.Set xs) q = faulty (IsWrong p) (Val v) true H M (no_truth_at v (layer.Set xs) q refl true)
guard_yes p v e H M x (layer.Fun ps) q = faulty (IsWrong p) (Val v) true H M (no_truth_at v (layer.Fun ps) q refl true)

guard_nay : (p : Place) (v : Value) (e : Effect) (H : Type 0) (M : Fault → Type 0) → Says e H M → (l : Layer Value) → out-Value v ≡ l →
    Says (guard p l (fails_by NoFault) e) ((Val v ≡ yes_no false) × H) (λ f. (kind_fault p l ≡ f) ⊎ ((Val v ≡ yes_no false) × M f))
guard_nay p v e H M x (layer.Bool true) q = faulty NoFault (Val v) false H M (other_truth v true false q true≢false')
guard_nay p v e H M x (layer.Bool false) q = passes v false e H M (ap Val (truth_rolls v false q)) x
guard_nay p v e H M x (layer.Int i) q = faulty (IsWrong p) (Val v) false H M (no_truth_at v (layer.Int i) q refl false)
guard_nay p v e H M x (layer.Text a) q = faulty (IsWrong p) (Val v) false H M (no_truth_at v (layer.Text a) q refl false)
guard_nay p v e H M x (layer.Set xs) q = faulty (IsWrong p) (Val v) false H M (no_truth_at v (layer.Set xs) q refl false)
guard_nay p v e H M x (layer.Fun ps) q = faulty (IsWrong p) (Val v) false H M (no_truth_at v (layer.Fun ps) q refl false)

guarding : (p : Place) (b : Bool) (o : Outcome) (e : Effect) (H : Type 0) (M : Fault → Type 0) → Says e H M →
    Says (led p b o e) ((o ≡ yes_no b) × H) (λ f. (guard_fault p o ≡ f) ⊎ ((o ≡ yes_no b) × M f))
guarding p true (Val v) e H M x = guard_yes p v e H M x (out-Value v) refl
guarding p false (Val v) e H M x = guard_nay p v e H M x (out-Value v) refl
guarding p true (Wrong q) e H M x = faulty (IsWrong q) (Wrong q) true H M wrong≢val
guarding p false (Wrong q) e H M x = faulty (IsWrong q) (Wrong q) false H M wrong≢val
guarding p true (Big q) e H M x = faulty (IsBig q) (Big q) true H M big≢val
guarding p false (Big q) e H M x = faulty (IsBig q) (Big q) false H M big≢val

-- ---- several

or_cases : (a b : Bool) → (a || b) ≡ true → (a ≡ true) ⊎ (b ≡ true)
or_cases true b e = inl refl
or_cases false b e = inr e

or_one : (a b : Bool) → a ≡ true → (a || b) ≡ true
or_one true b e = refl
or_one false b e = absurd (false≢true e)

or_two : (a b : Bool) → b ≡ true → (a || b) ≡ true
or_two true b e = refl
or_two false b e = e

two_effects : {X : Type 0} (f : X → Effect) (H : X → Type 0) (M : X → Fault → Type 0) (x : X) (xs : List X) → Says (f x) (H x) (M x) →
    Says (effects_or (map f xs)) ((x : X) × IsOneOf x xs × H x) (λ g. (x : X) × IsOneOf x xs × M x g) →
    Says (effects_or (map f (x ∷ xs))) ((y : X) × IsOneOf y (x ∷ xs) × H y) (λ g. (y : X) × IsOneOf y (x ∷ xs) × M y g)
two_effects {X = X} f H M x xs h rest = record {
  holds = (λ t. first (or_cases (f x).holds (effects_or (map f xs)).holds t), λ y. back y.0 y.1 y.2);
  fault = join_same one (λ g n m. two g m.0 m.1 m.2) (join_both h.fault rest.fault);
}
  where
    first : ((f x).holds ≡ true) ⊎ ((effects_or (map f xs)).holds ≡ true) → (y : X) × IsOneOf y (x ∷ xs) × H y
    first (inl e) = (x, inl refl, h.holds.0 e)
    first (inr e) = let y : (y : X) × IsOneOf y xs × H y = rest.holds.0 e in (y.0, inr y.1, y.2)

    back : (y : X) → IsOneOf y (x ∷ xs) → H y → ((f x).holds || (effects_or (map f xs)).holds) ≡ true
    back y (inl e) k = or_one (f x).holds (effects_or (map f xs)).holds (h.holds.1 (subst H e k))
    back y (inr e) k = or_two (f x).holds (effects_or (map f xs)).holds (rest.holds.1 (y, e, k))

    one : (g : Fault) → M x g ⊎ ((y : X) × IsOneOf y xs × M y g) → (y : X) × IsOneOf y (x ∷ xs) × M y g
    one g (inl m) = (x, inl refl, m)
    one g (inr m) = (m.0, inr m.1, m.2)

    two : (g : Fault) (y : X) → IsOneOf y (x ∷ xs) → M y g → M x g ⊎ ((y : X) × IsOneOf y xs × M y g)
    two g y (inl e) m = inl (subst (λ z. M z g) e m)
    two g y (inr e) m = inr (y, e, m)

pub several : {X : Type 0} (f : X → Effect) (H : X → Type 0) (M : X → Fault → Type 0) → ((x : X) → Says (f x) (H x) (M x)) → (xs : List X) →
    Says (effects_or (map f xs)) ((x : X) × IsOneOf x xs × H x) (λ g. (x : X) × IsOneOf x xs × M x g)
several f H M h [] = record { holds = (λ t. absurd (false≢true t), λ x. absurd x.1); fault = no_join _ (λ g m. m.1) }
several f H M h (x ∷ xs) = two_effects f H M x xs (h x) (several f H M h xs)

-- ---- the values picked

one_front : {X : Type 0} (x : X) (xs ys : List X) → IsOneOf x xs → IsOneOf x (xs ++ ys)
one_front x [] ys h = absurd h
one_front x (z ∷ zs) ys (inl e) = inl e
one_front x (z ∷ zs) ys (inr e) = inr (one_front x zs ys e)

one_back : {X : Type 0} (x : X) (xs ys : List X) → IsOneOf x ys → IsOneOf x (xs ++ ys)
one_back x [] ys h = h
one_back x (z ∷ zs) ys h = inr (one_back x zs ys h)

one_split : {X : Type 0} (x : X) (xs ys : List X) → IsOneOf x (xs ++ ys) → IsOneOf x xs ⊎ IsOneOf x ys
one_split x [] ys h = inr h
one_split x (z ∷ zs) ys (inl e) = inl (inl e)
one_split x (z ∷ zs) ys (inr e) = later (one_split x zs ys e)
  where
    later : IsOneOf x zs ⊎ IsOneOf x ys → ((x ≡ z) ⊎ IsOneOf x zs) ⊎ IsOneOf x ys
    later (inl h) = inl (inr h)
    later (inr h) = inr h

pub one_map : {X Y : Type 0} (f : X → Y) (x : X) (xs : List X) → IsOneOf x xs → IsOneOf (f x) (map f xs)
one_map f x [] h = absurd h
one_map f x (z ∷ zs) (inl e) = inl (ap f e)
one_map f x (z ∷ zs) (inr e) = inr (one_map f x zs e)

pub map_one : {X Y : Type 0} (f : X → Y) (y : Y) (xs : List X) → IsOneOf y (map f xs) → (x : X) × IsOneOf x xs × (y ≡ f x)
map_one f y [] h = absurd h
map_one f y (z ∷ zs) (inl e) = (z, inl refl, e)
map_one f y (z ∷ zs) (inr e) = let r = map_one f y zs e in (r.0, inr r.1, r.2)

with_each_in : (v : Value) (vs : List Value) (xs : List Value) (yss : List (List Value)) → IsOneOf v xs → IsOneOf vs yss → IsOneOf (v ∷ vs) (with_each xs yss)
with_each_in v vs [] yss h k = absurd h
with_each_in v vs (x ∷ xs) yss (inl e) k =
    subst (λ z. IsOneOf (v ∷ vs) (map (λ ys. z ∷ ys) yss ++ with_each xs yss)) e
    (one_front (v ∷ vs) (map (λ ys. v ∷ ys) yss) (with_each xs yss) (one_map (λ ys. v ∷ ys) vs yss k))
with_each_in v vs (x ∷ xs) yss (inr e) k =
    one_back (v ∷ vs) (map (λ ys. x ∷ ys) yss) (with_each xs yss) (with_each_in v vs xs yss e k)

pub chosen_in : (vs : List Value) (xss : List (List Value)) → AreIn vs xss → IsOneOf vs (choices xss)
chosen_in [] [] h = inl refl
chosen_in [] (xs ∷ xss) h = absurd h
chosen_in (v ∷ vs) [] h = absurd h
chosen_in (v ∷ vs) (xs ∷ xss) h = with_each_in v vs xs (choices xss) h.0 (chosen_in vs xss h.1)

abbrev Headed : List Value → List Value → List (List Value) → Type 0
Headed vs xs yss = (v : Value) × (us : List Value) × (vs ≡ v ∷ us) × IsOneOf v xs × IsOneOf us yss

with_each_out : (vs : List Value) (xs : List Value) (yss : List (List Value)) → IsOneOf vs (with_each xs yss) → Headed vs xs yss
with_each_out vs [] yss h = absurd h
with_each_out vs (x ∷ xs) yss h = by (one_split vs (map (λ ys. x ∷ ys) yss) (with_each xs yss) h) (with_each_out vs xs yss)
  where
    by : IsOneOf vs (map (λ ys. x ∷ ys) yss) ⊎ IsOneOf vs (with_each xs yss) → (IsOneOf vs (with_each xs yss) → Headed vs xs yss) → Headed vs (x ∷ xs) yss
    by (inl k) rec = let r = map_one (λ ys. x ∷ ys) vs yss k in (x, r.0, r.2, inl refl, r.1)
    by (inr k) rec = let r = rec k in (r.0, r.1, r.2, inr r.3, r.4)

pub chosen_out : (xss : List (List Value)) (vs : List Value) → IsOneOf vs (choices xss) → AreIn vs xss
chosen_out [] vs (inl e) = subst (λ us. AreIn us []) (sym e) tt
chosen_out [] vs (inr e) = absurd e
chosen_out (xs ∷ xss) vs h =
    let r = with_each_out vs xs (choices xss) h in
    subst (λ us. AreIn us (xs ∷ xss)) (sym r.2) (r.3, chosen_out xss r.1 r.4)

-- ---- a choice

abbrev Body : Type 0
Body = List Value → Effect

abbrev Chosen : List Outcome → (List Value → Type 0) → Type 0
Chosen os H = (vs : List Value) × (Picked os vs × H vs)

abbrev Faulty : Fault → List Outcome → (List Value → Fault → Type 0) → Fault → Type 0
Faulty f os M g = (f ≡ g) ⊎ Chosen os (λ vs. M vs g)

no_choice : (os : List Outcome) (f : Fault) (H : List Value → Type 0) (M : List Value → Fault → Type 0) → ((vs : List Value) → Picked os vs → ⊥) →
    Says (fails_by f) (Chosen os H) (Faulty f os M)
no_choice os f H M h = fails f _ _ (λ x. h x.0 x.1.0) (inl refl) other
  where
    other : (g : Fault) → IsFault g → Faulty f os M g → f ≡ g
    other g n (inl e) = e
    other g n (inr m) = absurd (h m.0 m.1.0)

none≢some : {X : Type 0} {x : X} → None ≡ Some x → ⊥
none≢some e = cc

some_same : {X : Type 0} {x y : X} → Some x ≡ Some y → x ≡ y
some_same e = cc

wrong≢none : {p : Place} → IsWrong p ≡ NoFault → ⊥
wrong≢none e = cc

big≢none : {p : Place} → IsBig p ≡ NoFault → ⊥
big≢none e = cc

choice_members : (p : Place) (os : List Outcome) (body : Body) (H : List Value → Type 0) (M : List Value → Fault → Type 0) →
    ((vs : List Value) → Says (body vs) (H vs) (M vs)) → joined os ≡ NoFault → (o : Option (List (List Value))) → all_set_items (values os) ≡ o →
    Says (elim o [ None ↦ fails_by (IsWrong p) | Some xss ↦ effects_or (map body (choices xss)) ]) (Chosen os H)
    (Faulty (elim o [ None ↦ IsWrong p | Some xss ↦ NoFault ]) os M)
choice_members p os body H M h sound None q = no_choice os (IsWrong p) H M (λ vs c. none≢some (sym q ∙ c.are_sets))
choice_members p os body H M h sound (Some xss) q =
    says_same
    (λ x. (x.0, (to x.0 x.1, x.2)))
    (λ x. (x.0, from x.0 x.1.0, x.1.1))
    (λ g x. inr (x.0, (to x.0 x.1, x.2)))
    back
    (several body H M h (choices xss))
  where
    to : (vs : List Value) → IsOneOf vs (choices xss) → Picked os vs
    to vs k = record { members = xss; sound = sound; are_sets = q; are_in = chosen_out xss vs k }

    from : (vs : List Value) → Picked os vs → IsOneOf vs (choices xss)
    from vs c = chosen_in vs xss (subst (AreIn vs) (some_same (sym c.are_sets ∙ q)) c.are_in)

    back : (g : Fault) → IsFault g → Faulty NoFault os M g → (vs : List Value) × IsOneOf vs (choices xss) × M vs g
    back g n (inl e) = absurd (not_none e n)
    back g n (inr x) = (x.0, from x.0 x.1.0, x.1.1)

choice_fault : (p : Place) (os : List Outcome) (body : Body) (H : List Value → Type 0) (M : List Value → Fault → Type 0) →
    ((vs : List Value) → Says (body vs) (H vs) (M vs)) → (f : Fault) → joined os ≡ f →
    Says
    (elim f [
      | NoFault ↦ elim (all_set_items (values os)) [ None ↦ fails_by (IsWrong p) | Some xss ↦ effects_or (map body (choices xss)) ]
      | IsWrong q ↦ fails_by (IsWrong q)
      | IsBig q ↦ fails_by (IsBig q)
    ])
    (Chosen os H)
    (Faulty (elim f [
      | NoFault ↦ elim (all_set_items (values os)) [ None ↦ IsWrong p | Some xss ↦ NoFault ]
      | IsWrong q ↦ IsWrong q
      | IsBig q ↦ IsBig q
    ]) os M)
choice_fault p os body H M h NoFault e = choice_members p os body H M h e (all_set_items (values os)) refl
choice_fault p os body H M h (IsWrong q) e = no_choice os (IsWrong q) H M (λ vs c. wrong≢none (sym e ∙ c.sound))
choice_fault p os body H M h (IsBig q) e = no_choice os (IsBig q) H M (λ vs c. big≢none (sym e ∙ c.sound))

choice : (p : Place) (os : List Outcome) (body : Body) (H : List Value → Type 0) (M : List Value → Fault → Type 0) →
    ((vs : List Value) → Says (body vs) (H vs) (M vs)) → Says (exists_effect p os body) (Chosen os H) (Faulty (sets_fault p os) os M)
choice p os body H M h = choice_fault p os body H M h (joined os) refl

-- ---- a path

abbrev Picks : Type 0
Picks = List (List Value)

module _ (w : Width) (s t : State) where
  abbrev Holding : List Step → Scope → Type 0
  Holding ys sc = (vss : Picks) × HoldsFor w s t ys vss sc

  abbrev Meeting : List Step → Scope → Fault → Type 0
  Meeting ys sc f = (vss : Picks) × MeetsFor w s t ys vss sc f

  pub steps_say : (ys : List Step) (sc : Scope) → Says (go w s t ys (λ a. done) sc) (Holding ys sc) (Meeting ys sc)
  steps_say [] sc = record { holds = (λ e. ([], refl), λ h. refl); fault = no_join _ (λ g m. m.1) }
  steps_say (Holds k ∷ ys) sc =
      says_same (λ h. (h.1.0, (h.0, h.1.1))) (λ h. (h.1.0, (h.0, h.1.1))) to from
      (operand (ker_val w k sc s t) (go w s t ys (λ a. done) sc) (Holding ys sc) (Meeting ys sc) (steps_say ys sc))
    where
      to : (g : Fault) → (fault_of (ker_val w k sc s t) ≡ g) ⊎ ((ker_val w k sc s t ≡ yes_no true) × Meeting ys sc g) → Meeting (Holds k ∷ ys) sc g
      to g (inl e) = ([], inl e)
      to g (inr m) = (m.1.0, inr (m.0, m.1.1))

      from : (g : Fault) → IsFault g → Meeting (Holds k ∷ ys) sc g → (fault_of (ker_val w k sc s t) ≡ g) ⊎ ((ker_val w k sc s t ≡ yes_no true) × Meeting ys sc g)
      from g n m = by m.0 m.1
        where
          by : (vss : Picks) → MeetsFor w s t (Holds k ∷ ys) vss sc g → (fault_of (ker_val w k sc s t) ≡ g) ⊎ ((ker_val w k sc s t ≡ yes_no true) × Meeting ys sc g)
          by vss (inl e) = inl e
          by vss (inr h) = inr (h.0, (vss, h.1))
  steps_say (Branch p k b ∷ ys) sc =
      says_same (λ h. (h.1.0, (h.0, h.1.1))) (λ h. (h.1.0, (h.0, h.1.1))) to from
      (guarding p b (ker_val w k sc s t) (go w s t ys (λ a. done) sc) (Holding ys sc) (Meeting ys sc) (steps_say ys sc))
    where
      to : (g : Fault) → (guard_fault p (ker_val w k sc s t) ≡ g) ⊎ ((ker_val w k sc s t ≡ yes_no b) × Meeting ys sc g) → Meeting (Branch p k b ∷ ys) sc g
      to g (inl e) = ([], inl e)
      to g (inr m) = (m.1.0, inr (m.0, m.1.1))

      from : (g : Fault) → IsFault g → Meeting (Branch p k b ∷ ys) sc g → (guard_fault p (ker_val w k sc s t) ≡ g) ⊎ ((ker_val w k sc s t ≡ yes_no b) × Meeting ys sc g)
      from g n m = by m.0 m.1
        where
          by : (vss : Picks) → MeetsFor w s t (Branch p k b ∷ ys) vss sc g → (guard_fault p (ker_val w k sc s t) ≡ g) ⊎ ((ker_val w k sc s t ≡ yes_no b) × Meeting ys sc g)
          by vss (inl e) = inl e
          by vss (inr h) = inr (h.0, (vss, h.1))
  steps_say (Choice p ps ∷ ys) sc =
      says_same (λ h. (h.0 ∷ h.1.1.0, (h.1.0, h.1.1.1))) holds_from to from
      (choice p (map (λ k. ker_val w k sc s t) (sets ps)) (λ vs. go w s t ys (λ a. done) (bind (names_of (numbers ps)) vs sc))
      (λ vs. Holding ys (bind (names_of (numbers ps)) vs sc)) (λ vs. Meeting ys (bind (names_of (numbers ps)) vs sc)) (λ vs. steps_say ys (bind (names_of (numbers ps)) vs sc)))
    where
      os : List Outcome
      os = map (λ k. ker_val w k sc s t) (sets ps)

      holds_from : Holding (Choice p ps ∷ ys) sc → Chosen os (λ vs. Holding ys (bind (names_of (numbers ps)) vs sc))
      holds_from h = by h.0 h.1
        where
          by : (vss : Picks) → HoldsFor w s t (Choice p ps ∷ ys) vss sc → Chosen os (λ vs. Holding ys (bind (names_of (numbers ps)) vs sc))
          by [] k = absurd k
          by (vs ∷ vss) k = (vs, (k.0, (vss, k.1)))

      to : (g : Fault) → Faulty (sets_fault p os) os (λ vs. Meeting ys (bind (names_of (numbers ps)) vs sc)) g → Meeting (Choice p ps ∷ ys) sc g
      to g (inl e) = ([], inl e)
      to g (inr m) = (m.0 ∷ m.1.1.0, inr (m.1.0, m.1.1.1))

      from : (g : Fault) → IsFault g → Meeting (Choice p ps ∷ ys) sc g → Faulty (sets_fault p os) os (λ vs. Meeting ys (bind (names_of (numbers ps)) vs sc)) g
      from g n m = by m.0 m.1
        where
          by : (vss : Picks) → MeetsFor w s t (Choice p ps ∷ ys) vss sc g → Faulty (sets_fault p os) os (λ vs. Meeting ys (bind (names_of (numbers ps)) vs sc)) g
          by vss (inl e) = inl e
          by [] (inr k) = absurd k
          by (vs ∷ vss) (inr k) = inr (vs, (k.0, (vss, k.1)))

-- THE LAW OF PATHS, for given choices
pub action_by_paths : (w : Width) (m : Assignable) (k : Ker) → IsTrue (separate (counts m) k) → (sc : Scope) (s t : State) →
    IsByPaths w s t (ways (counts m) k) sc (ker_effect w m k sc s t)
action_by_paths w m k h sc s t =
    subst (IsByPaths w s t (ways (counts m) k) sc) (sym (law_of_paths w m k h sc s t))
    (let x : Says (ways_effect w (ways (counts m) k) sc s t)
    ((y : Way Step) × IsOneOf y (ways (counts m) k) × Holding w s t y.steps sc)
    (λ g. (y : Way Step) × IsOneOf y (ways (counts m) k) × Meeting w s t y.steps sc g) =
    several (λ y. way_effect w y sc s t) (λ y. Holding w s t y.steps sc) (λ y. Meeting w s t y.steps sc) (λ y. steps_say w s t y.steps sc) (ways (counts m) k) in
    record { holds = x.holds; fault = x.fault })
