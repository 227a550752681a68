-- A node's ranges lie within their bounds where those of its children do, an operator a lemma.
use Rattle.std.proofs.Common.{◌≡◌, ℕ, Bool, true, false, ◌&&◌, List, [], ◌∷◌, ◌++◌, map, take, drop, length, refl, sym, ◌∙◌, ap, ap₂, Option, None, Some}
use Rattle.std.specs.List.{AllByRecursion, list_all}
use Rattle.tla_values.specs.Order.{Layer}
use Rattle.tla_values.specs.declared.value.Value.{Value, out-Value}
use Rattle.tla_values.specs.declared.value.Value.TheOpen as layer
use Rattle.tla_meaning.specs.declared.job.State.{State}
use Rattle.tla_meaning.specs.declared.outcome.Fault.{Fault}
use Rattle.tla_meaning.specs.declared.outcome.Fault.TheVariants.{NoFault, IsWrong, IsBig}
use Rattle.tla_meaning.specs.declared.outcome.Outcome.{Outcome}
use Rattle.tla_meaning.specs.declared.outcome.Outcome.TheVariants.{Val, Wrong, Big}
use Rattle.tla_meaning.specs.Outcomes.{joined, values}
use Rattle.tla_meaning.specs.Numbers.{Width}
use Rattle.tla_meaning.specs.Shapes.{all_set_items, choices, items_of}
use Rattle.tla_meaning.specs.Scopes.{Scope, bind}
use Rattle.tla_meaning.specs.Meaning.{At, Outside, NoFunction, Reached, step_into}
use Rattle.tla_meaning.proofs.Views.{and_both}
use Rattle.kernel_trees.specs.declared.kernel.Ker.{Ker}
use Rattle.kernel_trees.specs.declared.kernel.KerOp.{KerOp}
use Rattle.kernel_trees.specs.declared.kernel.KerOp.TheVariants as ker
use Rattle.kernel_trees.specs.Trees.{ker_val, names_of}
use Rattle.kernel_ranges.specs.Ranges.{Child, all_within, at_members, at_old, at_steps, choices_in, choices_of, choices_without, each_step, followed, gives, goes_on, in_bounds, in_turn, is_within, items_within, numbers_from, over_items, range_lies, reached_within, within_at}
use Rattle.kernel_ranges.proofs.Opened.{AllLie, Lies, by_parts, ends, fronts, is_plain, outs, plain_at, trees_of, with_within}

-- what is not followed lies within its bounds
followed_any : (b : Bool) (x : Layer Value) (rest : Bool) → rest ≡ true → followed b x rest ≡ true
followed_any true (layer.Bool true) rest h = h
followed_any false (layer.Bool false) rest h = h
followed_any b x rest h = refl

goes_any : (b : Bool) (o : Outcome) (rest : Bool) → rest ≡ true → goes_on b o rest ≡ true
goes_any b (Val v) rest h = followed_any b (out-Value v) rest h
goes_any b (Wrong p) rest h = refl
goes_any b (Big p) rest h = refl

each_true : {X : Type 0} (test : X → Bool) (xs : List X) → AllByRecursion (λ x. test x ≡ true) xs →
    list_all test xs ≡ true
each_true test [] h = refl
each_true test (x ∷ xs) h = and_both (test x) (list_all test xs) h.0 (each_true test xs h.1)

-- a test of all choices, where there are any
at_choices : (test : List Value → Bool) (os : List Outcome) →
    ((xss : List (List Value)) → joined os ≡ NoFault → all_set_items (values os) ≡ Some xss →
    list_all test (choices xss) ≡ true) →
    list_all test (choices_of os) ≡ true
at_choices test os h = by (joined os) refl
  where
    by_sets : joined os ≡ NoFault → (o : Option (List (List Value))) → all_set_items (values os) ≡ o →
        list_all test (choices_in o) ≡ true
    by_sets e None d = refl
    by_sets e (Some xss) d = h xss e d

    by : (f : Fault) → joined os ≡ f → list_all test (choices_without f (values os)) ≡ true
    by NoFault e = by_sets e (all_set_items (values os)) refl
    by (IsWrong p) e = refl
    by (IsBig p) e = refl

ranges_between : (bounds : List Ker) (o q : Outcome) →
    ((v u : Value) → o ≡ Val v → q ≡ Val u →
    list_all (in_bounds bounds) (numbers_from (out-Value v) (out-Value u)) ≡ true) →
    range_lies bounds o q ≡ true
ranges_between bounds (Val v) (Val u) h = h v u refl refl
ranges_between bounds o q h = refl

old_within : (test : Value → Bool) (o q : Outcome) →
    ((v u old : Value) → o ≡ Val v → q ≡ Val u → step_into (out-Value v) u ≡ At old → test old ≡ true) →
    at_old test o q ≡ true
old_within test (Val v) (Val u) h = by (step_into (out-Value v) u) refl
  where
    by : (r : Reached) → step_into (out-Value v) u ≡ r → reached_within test r ≡ true
    by (At old) e = h v u old refl refl e
    by Outside e = refl
    by NoFunction e = refl
old_within test o q h = refl

steps_within : (f : Value → Value → Outcome) (test : Value → Value → Bool) (o q : Outcome) →
    ((v u : Value) (ps : List (Value × Value)) (items : List Value) → o ≡ Val v → q ≡ Val u →
    out-Value u ≡ layer.Fun ps →
    items_of ps ≡ Some items → each_step f test items v ≡ true) →
    at_steps f test o q ≡ true
steps_within f test (Val v) (Val u) h = by (out-Value u) refl
  where
    by_items : (ps : List (Value × Value)) → out-Value u ≡ layer.Fun ps → (o : Option (List Value)) → items_of ps ≡ o →
        items_within (λ xs. each_step f test xs v) o ≡ true
    by_items ps e None d = refl
    by_items ps e (Some xs) d = h v u ps xs refl refl e d

    by : (x : Layer Value) → out-Value u ≡ x → over_items (λ xs. each_step f test xs v) x ≡ true
    by (layer.Fun ps) e = by_items ps e (items_of ps) refl
    by x e = refl
steps_within f test o q h = refl

module _ (w : Width) (s t : State) where
  pub all_closed : (sc : Scope) (ks : List Ker) → AllLie w s t sc ks → all_within (with_within w ks) sc s t ≡ true
  all_closed sc [] h = refl
  all_closed sc (k ∷ ks) h =
      and_both (is_within w k sc s t) (all_within (with_within w ks) sc s t) h.0 (all_closed sc ks h.1)

  pub plain_closed : (o : KerOp) (xs : List ℕ) (ks : List Ker) (sc : Scope) → is_plain o ≡ true → AllLie w s t sc ks →
      within_at w o xs (with_within w ks) sc s t ≡ true
  plain_closed o xs ks sc h e = plain_at w s t o xs (with_within w ks) sc h ∙ all_closed sc ks e

  pub turn_closed : (b : Bool) (sc : Scope) (ks : List Ker) → AllLie w s t sc ks →
      in_turn w b (with_within w ks) sc s t ≡ true
  turn_closed b sc [] h = refl
  turn_closed b sc (k ∷ ks) h =
      let r : Bool = in_turn w b (with_within w ks) sc s t in
      and_both (is_within w k sc s t) (goes_on b (ker_val w k sc s t) r) h.0
      (goes_any b (ker_val w k sc s t) r (turn_closed b sc ks h.1))

  pub if_closed : (xs : List ℕ) (c x y : Ker) (sc : Scope) → Lies w s t sc c → Lies w s t sc x → Lies w s t sc y →
      within_at w ker.If xs (with_within w (c ∷ x ∷ y ∷ [])) sc s t ≡ true
  if_closed xs c x y sc h p q =
      let o : Outcome = ker_val w c sc s t in
      let a : Bool = goes_on true o (is_within w x sc s t) in
      let b : Bool = goes_on false o (is_within w y sc s t) in
      and_both (is_within w c sc s t) (a && b) h
      (and_both a b (goes_any true o (is_within w x sc s t) p) (goes_any false o (is_within w y sc s t) q))

  -- its numbers, where its ends are numbers, between its bounds
  pub range_closed : (xs : List ℕ) (x y : Ker) (bounds : List Ker) (sc : Scope) → Lies w s t sc x → Lies w s t sc y →
      ((v u : Value) → ker_val w x sc s t ≡ Val v → ker_val w y sc s t ≡ Val u →
      list_all (in_bounds bounds) (numbers_from (out-Value v) (out-Value u)) ≡ true) →
      within_at w ker.Range xs (with_within w (x ∷ y ∷ bounds)) sc s t ≡ true
  range_closed xs x y bounds sc h k l =
      let a : Bool = is_within w x sc s t in
      let b : Bool = is_within w y sc s t in
      let numbers : List Ker → Bool = λ ks. range_lies ks (ker_val w x sc s t) (ker_val w y sc s t) in
      and_both (a && b) (numbers (map (λ (k : Child). k.0) (with_within w bounds))) (and_both a b h k)
      (ap numbers (trees_of w s t bounds) ∙ ranges_between bounds (ker_val w x sc s t) (ker_val w y sc s t) l)

  -- the body at all choices of members, where its sets have no fault and are sets
  pub members_closed : (xs : List ℕ) (ks : List Ker) (body : Ker) (sc : Scope) → length ks ≡ length xs →
      AllLie w s t sc ks →
      ((xss : List (List Value)) → joined (map (λ k. ker_val w k sc s t) ks) ≡ NoFault →
      all_set_items (values (map (λ k. ker_val w k sc s t) ks)) ≡ Some xss →
      AllByRecursion (λ vs. Lies w s t (bind (names_of xs) vs sc) body) (choices xss)) →
      at_members w xs (with_within w (ks ++ body ∷ [])) sc s t ≡ true
  members_closed xs ks body sc n h g =
      let whole : List Child = with_within w (ks ++ body ∷ []) in
      let test : List Value → Bool = λ vs. is_within w body (bind (names_of xs) vs sc) s t in
      let os : List Outcome = map (λ k. ker_val w k sc s t) ks in
      let at_all : List Outcome → Bool = λ os. list_all test (choices_of os) in
      let e : at_all os ≡ true = at_choices test os (λ xss d q. each_true test (choices xss) (g xss d q)) in
      ap (λ m. by_parts w s t xs sc (take m whole) (drop m whole)) (sym n)
      ∙ ap₂ (by_parts w s t xs sc) (fronts w s t ks body) (ends w s t ks body)
      ∙ and_both (all_within (with_within w ks) sc s t)
      (at_all (map (λ (k : Child). gives w k sc s t) (with_within w ks))) (all_closed sc ks h)
      (ap at_all (outs w s t sc ks) ∙ e)

  -- the right side at what stands at the index
  pub update_closed : (xs : List ℕ) (f i e : Ker) (sc : Scope) → Lies w s t sc f → Lies w s t sc i →
      ((v u old : Value) → ker_val w f sc s t ≡ Val v → ker_val w i sc s t ≡ Val u →
      step_into (out-Value v) u ≡ At old →
      Lies w s t (bind (names_of xs) (old ∷ []) sc) e) →
      within_at w ker.Update xs (with_within w (f ∷ i ∷ e ∷ [])) sc s t ≡ true
  update_closed xs f i e sc h k l =
      let a : Bool = is_within w f sc s t in
      let b : Bool = is_within w i sc s t in
      let test : Value → Bool = λ v. is_within w e (bind (names_of xs) (v ∷ []) sc) s t in
      and_both (a && b) (at_old test (ker_val w f sc s t) (ker_val w i sc s t)) (and_both a b h k)
      (old_within test (ker_val w f sc s t) (ker_val w i sc s t) l)

  -- the body at each step
  pub fold_closed : (xs : List ℕ) (e f q : Ker) (sc : Scope) → Lies w s t sc f → Lies w s t sc q →
      ((v u : Value) (ps : List (Value × Value)) (items : List Value) → ker_val w f sc s t ≡ Val v →
      ker_val w q sc s t ≡ Val u →
      out-Value u ≡ layer.Fun ps → items_of ps ≡ Some items →
      each_step (λ a b. ker_val w e (bind (names_of xs) (a ∷ b ∷ []) sc) s t)
      (λ a b. is_within w e (bind (names_of xs) (a ∷ b ∷ []) sc) s t) items v ≡ true) →
      within_at w ker.FoldLeft xs (with_within w (e ∷ f ∷ q ∷ [])) sc s t ≡ true
  fold_closed xs e f q sc h k l =
      let a : Bool = is_within w f sc s t in
      let b : Bool = is_within w q sc s t in
      let body : Value → Value → Outcome = λ a b. ker_val w e (bind (names_of xs) (a ∷ b ∷ []) sc) s t in
      let test : Value → Value → Bool = λ a b. is_within w e (bind (names_of xs) (a ∷ b ∷ []) sc) s t in
      and_both (a && b) (at_steps body test (ker_val w f sc s t) (ker_val w q sc s t)) (and_both a b h k)
      (steps_within body test (ker_val w f sc s t) (ker_val w q sc s t) l)
