-- What steps come to: behind others, over alternatives, and where nothing that follows reads what was chosen.
use Rattle.std.proofs.Common.{◌≡◌, ℕ, Bool, true, false, not, ◌||◌, IsTrue, List, [], ◌∷◌, ◌++◌, map, refl, sym, ◌∙◌, ap, ap₂, Option, Some, None}
use Rattle.std.specs.List.{list_any, list_all}
use Rattle.std.proofs.lemmas.Map.Text.{is_eq-slice_cmp}
use Rattle.std.proofs.lemmas.Slice.Eq.{bytes_eq-Decides}
use Rattle.tla_values.specs.Order.{Layer}
use Rattle.tla_values.specs.declared.value.Value.{Value, out-Value}
use Rattle.tla_meaning.specs.declared.place.Place.{Place}
use Rattle.tla_meaning.specs.declared.job.State.{State}
use Rattle.tla_meaning.specs.declared.outcome.Fault.{Fault}
use Rattle.tla_meaning.specs.declared.outcome.Fault.TheVariants.{NoFault, IsWrong, IsBig}
use Rattle.tla_meaning.specs.declared.outcome.Outcome.{Outcome}
use Rattle.tla_meaning.specs.declared.outcome.Outcome.TheVariants.{Val, Wrong, Big}
use Rattle.tla_meaning.specs.Outcomes.{joined, values}
use Rattle.tla_meaning.specs.Shapes.{choices, all_set_items}
use Rattle.tla_meaning.specs.Numbers.{Width}
use Rattle.tla_meaning.specs.declared.actions.Effect.{Effect}
use Rattle.tla_meaning.specs.Scopes.{Scope, bind, bound_to, same_text}
use Rattle.tla_meaning.specs.Actions.{fails_by, effect_of, effects_or, guard, exists_effect}
use Rattle.tla_meaning.specs.FreeNames.{SameOn, with_names}
use Rattle.tla_meaning.specs.Substitution.{apart}
use Rattle.tla_meaning.proofs.Views.{and_left, and_right, and_both, false≢true}
use Rattle.tla_meaning.proofs.Laws.{unseen, missed-bound}
use Rattle.kernel_trees.specs.Trees.{names_of, number_name, ker_val}
use Rattle.kernel_trees.specs.Paths.{Step, Holds, Branch, Choice, numbers, sets}
use Rattle.kernel_trees.specs.inner.Runs.{done, and_then, led, go}
use Rattle.kernel_trees.specs.inner.Separate.{chosen, but, no_names}
use Rattle.kernel_trees.proofs.Effects.{or_also, or_nothing, or_twice, or_four, and_grouped, and_or, or_and}
use Rattle.tla_values.specs.declared.value.Value.TheOpen as layer

-- ---- lists of effects

pub or_each : {X : Type 0} (f g : X → Effect) (xs : List X) →
    or_also (effects_or (map f xs)) (effects_or (map g xs)) ≡ effects_or (map (λ x. or_also (f x) (g x)) xs)
or_each f g [] = refl
or_each f g (x ∷ xs) =
    or_four (f x) (effects_or (map f xs)) (g x) (effects_or (map g xs))
    ∙ ap (or_also (or_also (f x) (g x))) (or_each f g xs)

pub and_each : {X : Type 0} (f : X → Effect) (e : Effect) (xs : List X) →
    effects_or (map (λ x. and_then (f x) e) xs) ≡ and_then (effects_or (map f xs)) e
and_each f e [] = refl
and_each f e (x ∷ xs) = ap (or_also (and_then (f x) e)) (and_each f e xs) ∙ sym (and_or (f x) (effects_or (map f xs)) e)

pub same_each : {X : Type 0} (f g : X → Effect) → ((x : X) → f x ≡ g x) → (xs : List X) → effects_or (map f xs) ≡ effects_or (map g xs)
same_each f g h [] = refl
same_each f g h (x ∷ xs) = ap₂ or_also (h x) (same_each f g h xs)

-- ---- a guard

fault_twice : (g : Fault) → or_also (fails_by g) (fails_by g) ≡ fails_by g
fault_twice g = or_twice (fails_by g)

guard_or_yes : (p : Place) (l : Layer Value) (e f : Effect) → or_also (guard p l e (fails_by NoFault)) (guard p l f (fails_by NoFault)) ≡ guard p l (or_also e f) (fails_by NoFault)
guard_or_yes p (layer.Bool true) e f = refl
guard_or_yes p (layer.Bool false) e f = refl
guard_or_yes p (layer.Int i) e f = fault_twice (IsWrong p)
guard_or_yes p (layer.Text a) e f = fault_twice (IsWrong p)
guard_or_yes p (layer.Set xs) e f = fault_twice (IsWrong p)
guard_or_yes p (layer.Fun ps) e f = fault_twice (IsWrong p)

guard_or_nay : (p : Place) (l : Layer Value) (e f : Effect) → or_also (guard p l (fails_by NoFault) e) (guard p l (fails_by NoFault) f) ≡ guard p l (fails_by NoFault) (or_also e f)
guard_or_nay p (layer.Bool true) e f = refl
guard_or_nay p (layer.Bool false) e f = refl
guard_or_nay p (layer.Int i) e f = fault_twice (IsWrong p)
guard_or_nay p (layer.Text a) e f = fault_twice (IsWrong p)
guard_or_nay p (layer.Set xs) e f = fault_twice (IsWrong p)
guard_or_nay p (layer.Fun ps) e f = fault_twice (IsWrong p)

guard_and_yes : (p : Place) (l : Layer Value) (e f : Effect) → and_then (guard p l e (fails_by NoFault)) f ≡ guard p l (and_then e f) (fails_by NoFault)
guard_and_yes p (layer.Bool true) e f = refl
guard_and_yes p (layer.Bool false) e f = refl
guard_and_yes p (layer.Int i) e f = refl
guard_and_yes p (layer.Text a) e f = refl
guard_and_yes p (layer.Set xs) e f = refl
guard_and_yes p (layer.Fun ps) e f = refl

guard_and_nay : (p : Place) (l : Layer Value) (e f : Effect) → and_then (guard p l (fails_by NoFault) e) f ≡ guard p l (fails_by NoFault) (and_then e f)
guard_and_nay p (layer.Bool true) e f = refl
guard_and_nay p (layer.Bool false) e f = refl
guard_and_nay p (layer.Int i) e f = refl
guard_and_nay p (layer.Text a) e f = refl
guard_and_nay p (layer.Set xs) e f = refl
guard_and_nay p (layer.Fun ps) e f = refl

pub led_or : (p : Place) (b : Bool) (o : Outcome) (e f : Effect) → or_also (led p b o e) (led p b o f) ≡ led p b o (or_also e f)
led_or p true (Wrong q) e f = fault_twice (IsWrong q)
led_or p false (Wrong q) e f = fault_twice (IsWrong q)
led_or p true (Big q) e f = fault_twice (IsBig q)
led_or p false (Big q) e f = fault_twice (IsBig q)
led_or p true (Val v) e f = guard_or_yes p (out-Value v) e f
led_or p false (Val v) e f = guard_or_nay p (out-Value v) e f

pub led_and : (p : Place) (b : Bool) (o : Outcome) (e f : Effect) → and_then (led p b o e) f ≡ led p b o (and_then e f)
led_and p true (Wrong q) e f = refl
led_and p false (Wrong q) e f = refl
led_and p true (Big q) e f = refl
led_and p false (Big q) e f = refl
led_and p true (Val v) e f = guard_and_yes p (out-Value v) e f
led_and p false (Val v) e f = guard_and_nay p (out-Value v) e f

-- ---- a choice

abbrev Body : Type 0
Body = List Value → Effect

abbrev over : Place → Option (List (List Value)) → Body → Effect
over p o f = elim o [ None ↦ fails_by (IsWrong p) | Some xss ↦ effects_or (map f (choices xss)) ]

abbrev behind : Fault → Effect → Effect
behind g e = elim g [ NoFault ↦ e | IsWrong q ↦ fails_by (IsWrong q) | IsBig q ↦ fails_by (IsBig q) ]

behind_or : (g : Fault) (e f : Effect) → or_also (behind g e) (behind g f) ≡ behind g (or_also e f)
behind_or NoFault e f = refl
behind_or (IsWrong q) e f = fault_twice (IsWrong q)
behind_or (IsBig q) e f = fault_twice (IsBig q)

behind_and : (g : Fault) (e f : Effect) → and_then (behind g e) f ≡ behind g (and_then e f)
behind_and NoFault e f = refl
behind_and (IsWrong q) e f = refl
behind_and (IsBig q) e f = refl

over_or : (p : Place) (o : Option (List (List Value))) (f g : Body) → or_also (over p o f) (over p o g) ≡ over p o (λ vs. or_also (f vs) (g vs))
over_or p None f g = fault_twice (IsWrong p)
over_or p (Some xss) f g = or_each f g (choices xss)

over_and : (p : Place) (o : Option (List (List Value))) (f : Body) (e : Effect) → and_then (over p o f) e ≡ over p o (λ vs. and_then (f vs) e)
over_and p None f e = refl
over_and p (Some xss) f e = sym (and_each f e (choices xss))

pub exists_or : (p : Place) (os : List Outcome) (f g : Body) →
    or_also (exists_effect p os f) (exists_effect p os g) ≡ exists_effect p os (λ vs. or_also (f vs) (g vs))
exists_or p os f g =
    behind_or (joined os) (over p (all_set_items (values os)) f) (over p (all_set_items (values os)) g)
    ∙ ap (behind (joined os)) (over_or p (all_set_items (values os)) f g)

pub exists_and : (p : Place) (os : List Outcome) (f : Body) (e : Effect) →
    and_then (exists_effect p os f) e ≡ exists_effect p os (λ vs. and_then (f vs) e)
exists_and p os f e =
    behind_and (joined os) (over p (all_set_items (values os)) f) e
    ∙ ap (behind (joined os)) (over_and p (all_set_items (values os)) f e)

pub exists_same : (p : Place) (os : List Outcome) (f g : Body) → ((vs : List Value) → f vs ≡ g vs) → exists_effect p os f ≡ exists_effect p os g
exists_same p os f g h = λ i. exists_effect p os (λ vs. h vs i)

-- ---- steps

module _ (w : Width) (s t : State) where
  -- one run of steps behind another
  pub go_behind : (ys zs : List Step) (rest : Scope → Effect) (sc : Scope) →
      go w s t (ys ++ zs) rest sc ≡ go w s t ys (go w s t zs rest) sc
  go_behind [] zs rest sc = refl
  go_behind (Holds k ∷ ys) zs rest sc = ap (and_then (effect_of (ker_val w k sc s t))) (go_behind ys zs rest sc)
  go_behind (Branch p k b ∷ ys) zs rest sc = ap (led p b (ker_val w k sc s t)) (go_behind ys zs rest sc)
  go_behind (Choice p ps ∷ ys) zs rest sc =
      exists_same p (map (λ k. ker_val w k sc s t) (sets ps)) _ _ (λ vs. go_behind ys zs rest (bind (names_of (numbers ps)) vs sc))

  -- where what follows is the same in every scope
  pub go_then : (ys : List Step) (e : Effect) (sc : Scope) →
      go w s t ys (λ a. e) sc ≡ and_then (go w s t ys (λ a. done) sc) e
  go_then [] e sc = refl
  go_then (Holds k ∷ ys) e sc =
      ap (and_then (effect_of (ker_val w k sc s t))) (go_then ys e sc)
      ∙ sym (and_grouped (effect_of (ker_val w k sc s t)) (go w s t ys (λ a. done) sc) e)
  go_then (Branch p k b ∷ ys) e sc =
      ap (led p b (ker_val w k sc s t)) (go_then ys e sc)
      ∙ sym (led_and p b (ker_val w k sc s t) (go w s t ys (λ a. done) sc) e)
  go_then (Choice p ps ∷ ys) e sc =
      exists_same p (map (λ k. ker_val w k sc s t) (sets ps)) _ _ (λ vs. go_then ys e (bind (names_of (numbers ps)) vs sc))
      ∙ sym (exists_and p (map (λ k. ker_val w k sc s t) (sets ps)) (λ vs. go w s t ys (λ a. done) (bind (names_of (numbers ps)) vs sc)) e)

  -- alternatives behind the same steps
  pub go_either : (ys : List Step) (f g : Scope → Effect) (sc : Scope) →
      or_also (go w s t ys f sc) (go w s t ys g sc) ≡ go w s t ys (λ a. or_also (f a) (g a)) sc
  go_either [] f g sc = refl
  go_either (Holds k ∷ ys) f g sc =
      or_and (effect_of (ker_val w k sc s t)) (go w s t ys f sc) (go w s t ys g sc)
      ∙ ap (and_then (effect_of (ker_val w k sc s t))) (go_either ys f g sc)
  go_either (Branch p k b ∷ ys) f g sc =
      led_or p b (ker_val w k sc s t) (go w s t ys f sc) (go w s t ys g sc)
      ∙ ap (led p b (ker_val w k sc s t)) (go_either ys f g sc)
  go_either (Choice p ps ∷ ys) f g sc =
      exists_or p (map (λ k. ker_val w k sc s t) (sets ps)) (λ vs. go w s t ys f (bind (names_of (numbers ps)) vs sc)) (λ vs. go w s t ys g (bind (names_of (numbers ps)) vs sc))
      ∙ exists_same p (map (λ k. ker_val w k sc s t) (sets ps)) _ _ (λ vs. go_either ys f g (bind (names_of (numbers ps)) vs sc))

  -- there is at least one
  pub go_any : {X : Type 0} (ys : List Step) (f : X → Scope → Effect) (sc : Scope) (x : X) (xs : List X) →
      effects_or (map (λ x. go w s t ys (f x) sc) (x ∷ xs)) ≡ go w s t ys (λ a. effects_or (map (λ x. f x a) (x ∷ xs))) sc
  go_any ys f sc x [] =
      or_nothing (go w s t ys (f x) sc) ∙ ap (λ (r : Scope → Effect). go w s t ys r sc) (λ i. λ a. sym (or_nothing (f x a)) i)
  go_any ys f sc x (z ∷ zs) =
      ap (or_also (go w s t ys (f x) sc)) (go_any ys f sc z zs)
      ∙ go_either ys (f x) (λ a. effects_or (map (λ x. f x a) (z ∷ zs))) sc

-- ---- scopes that agree but for what was chosen

pub all_front : {X : Type 0} (f : X → Bool) (xs ys : List X) → IsTrue (list_all f (xs ++ ys)) → IsTrue (list_all f xs)
all_front f [] ys h = refl
all_front f (x ∷ xs) ys h =
    and_both (f x) (list_all f xs) (and_left (f x) (list_all f (xs ++ ys)) h) (all_front f xs ys (and_right (f x) (list_all f (xs ++ ys)) h))

pub all_back : {X : Type 0} (f : X → Bool) (xs ys : List X) → IsTrue (list_all f (xs ++ ys)) → IsTrue (list_all f ys)
all_back f [] ys h = h
all_back f (x ∷ xs) ys h = all_back f xs ys (and_right (f x) (list_all f (xs ++ ys)) h)

-- none of these numbers lies in the set
abbrev pub outside : (List ℕ → Bool) → List ℕ → Bool
outside B xs = list_all (λ n. not (B (number_name n))) xs

outside_names : (B : List ℕ → Bool) (xs : List ℕ) → IsTrue (outside B xs) → IsTrue (apart B (names_of xs))
outside_names B [] h = refl
outside_names B (x ∷ xs) h =
    and_both (not (B (number_name x))) (apart B (names_of xs)) (and_left (not (B (number_name x))) (outside B xs) h)
    (outside_names B xs (and_right (not (B (number_name x))) (outside B xs) h))

same_bound : (B : List ℕ → Bool) (xs : List ℕ) (vs : List Value) (sc : Scope) → IsTrue (outside B xs) →
    SameOn no_names B sc (bind (names_of xs) vs sc)
same_bound B xs vs sc h = (
  λ x b. sym (unseen x sc.bound (bound_to (names_of xs) vs) (missed-bound B x (names_of xs) vs (outside_names B xs h) b)),
  λ x b. refl,
)

same_on_then : (B : List ℕ → Bool) (a b c : Scope) → SameOn no_names B a b → SameOn no_names B b c → SameOn no_names B a c
same_on_then B a b c h k = (λ x y. h.0 x y ∙ k.0 x y, λ x y. h.1 x y ∙ k.1 x y)

module _ (w : Width) (s t : State) where
  -- what follows may be replaced where it is the same in every such scope
  pub go_same : (B : List ℕ → Bool) (ys : List Step) (f g : Scope → Effect) (a : Scope) → IsTrue (outside B (chosen ys)) →
      ((b : Scope) → SameOn no_names B a b → f b ≡ g b) → go w s t ys f a ≡ go w s t ys g a
  go_same B [] f g a h e = e a (λ x y. refl, λ x y. refl)
  go_same B (Holds k ∷ ys) f g a h e = ap (and_then (effect_of (ker_val w k a s t))) (go_same B ys f g a h e)
  go_same B (Branch p k b ∷ ys) f g a h e = ap (led p b (ker_val w k a s t)) (go_same B ys f g a h e)
  go_same B (Choice p ps ∷ ys) f g a h e =
      let front : IsTrue (outside B (numbers ps)) = all_front (λ n. not (B (number_name n))) (numbers ps) (chosen ys) h in
      let back : IsTrue (outside B (chosen ys)) = all_back (λ n. not (B (number_name n))) (numbers ps) (chosen ys) h in
      exists_same p (map (λ k. ker_val w k a s t) (sets ps)) _ _ (λ vs.
      go_same B ys f g (bind (names_of (numbers ps)) vs a) back (λ b r.
      e b (same_on_then B a (bind (names_of (numbers ps)) vs a) b (same_bound B (numbers ps) vs a front) r)))

-- ---- all names but some

pub same_text_same : (x : List ℕ) → same_text x x ≡ true
same_text_same x = is_eq-slice_cmp x x ∙ (bytes_eq-Decides x x).1 refl

abbrev among : List ℕ → ℕ → Bool
among xs n = with_names (names_of xs) (λ y. false) (number_name n)

or_right : (a b : Bool) → b ≡ true → (a || b) ≡ true
or_right true b h = refl
or_right false b h = h

or_left : (a b : Bool) → a ≡ true → (a || b) ≡ true
or_left true b h = refl
or_left false b h = absurd (false≢true h)

step_right : (a b c : Bool) → (b || c) ≡ true → ((a || b) || c) ≡ true
step_right true b c h = refl
step_right false b c h = h

not_not : (a : Bool) → IsTrue (not (not a)) → a ≡ true
not_not true h = refl
not_not false h = absurd (false≢true h)

from_not : (a : Bool) → a ≡ true → IsTrue (not (not a))
from_not true h = refl
from_not false h = absurd (false≢true h)

more_outside : (x : ℕ) (xs zs : List ℕ) → IsTrue (outside (but xs) zs) → IsTrue (outside (but (x ∷ xs)) zs)
more_outside x xs [] h = refl
more_outside x xs (z ∷ zs) h =
    and_both (not (but (x ∷ xs) (number_name z))) (outside (but (x ∷ xs)) zs)
    (from_not (among (x ∷ xs) z)
    (step_right (same_text (number_name z) (number_name x)) (list_any (same_text (number_name z)) (names_of xs)) false
    (not_not (among xs z) (and_left (not (but xs (number_name z))) (outside (but xs) zs) h))))
    (more_outside x xs zs (and_right (not (but xs (number_name z))) (outside (but xs) zs) h))

pub but_outside : (xs : List ℕ) → IsTrue (outside (but xs) xs)
but_outside [] = refl
but_outside (x ∷ xs) =
    and_both (not (but (x ∷ xs) (number_name x))) (outside (but (x ∷ xs)) xs)
    (from_not (among (x ∷ xs) x)
    (or_left (same_text (number_name x) (number_name x) || list_any (same_text (number_name x)) (names_of xs)) false
    (or_left (same_text (number_name x) (number_name x)) (list_any (same_text (number_name x)) (names_of xs)) (same_text_same (number_name x)))))
    (more_outside x xs xs (but_outside xs))
