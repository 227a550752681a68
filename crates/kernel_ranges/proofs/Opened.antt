-- What it says of a node's children that the node's ranges lie within their bounds, an operator a lemma.
use Rattle.std.proofs.Common.{◌≡◌, ℕ, Bool, true, false, ◌&&◌, List, [], ◌∷◌, ◌++◌, map, take, drop, length, refl, sym, ◌∙◌, ap, ap₂, Some}
use Rattle.std.specs.List.{list_all}
use Rattle.tla_values.specs.declared.value.Value.{Value, out-Value}
use Rattle.tla_values.specs.declared.value.Value.TheOpen as layer
use Rattle.tla_values.specs.declared.value.Value.TheVariants as value
use Rattle.tla_meaning.specs.declared.job.State.{State}
use Rattle.tla_meaning.specs.declared.outcome.Fault.TheVariants.{NoFault}
use Rattle.tla_meaning.specs.declared.outcome.Outcome.{Outcome}
use Rattle.tla_meaning.specs.declared.outcome.Outcome.TheVariants.{Val}
use Rattle.tla_meaning.specs.Outcomes.{joined, values}
use Rattle.tla_meaning.specs.Numbers.{Width}
use Rattle.tla_meaning.specs.Operators.{yes_no}
use Rattle.tla_meaning.specs.Shapes.{all_set_items, choices, items_of}
use Rattle.tla_meaning.specs.Scopes.{Scope, bind}
use Rattle.tla_meaning.specs.Meaning.{At, step_into}
use Rattle.tla_meaning.proofs.Views.{and_left, and_right, false≢true}
use Rattle.kernel_trees.specs.declared.kernel.Ker.{Ker, roll-Ker, out-Ker, roll-out-Ker}
use Rattle.kernel_trees.specs.declared.kernel.Ker.TheOpen.{Ker-F}
use Rattle.kernel_trees.specs.declared.kernel.KerOp.{KerOp}
use Rattle.kernel_trees.specs.declared.kernel.KerOp.TheVariants as ker
use Rattle.kernel_trees.specs.Trees.{ker_val, names_of}
use Rattle.kernel_trees.proofs.Trees.{recur-roll}
use Rattle.kernel_ranges.specs.Ranges.{Child, Within, all_within, at_members, at_old, at_steps, body_within, choices_in, choices_of, choices_without, each_step, followed, gives, goes_on, in_bounds, in_turn, is_within, items_within, numbers_from, over_items, range_lies, reached_within, within_at}

abbrev pub with_within : Width → List Ker → List Child
with_within w ks = map (λ k. (k, is_within w k)) ks

-- a node by its children
pub within-roll : (w : Width) (x : Ker-F Ker) (sc : Scope) (s t : State) →
    is_within w (roll-Ker x) sc s t ≡ within_at w x.op x.binds (with_within w x.args) sc s t
within-roll w x sc s t = ap (λ (f : Within). f sc s t) (recur-roll (λ x. within_at w x.op x.binds x.args) x)

pub within-out : (w : Width) (k : Ker) (sc : Scope) (s t : State) →
    is_within w k sc s t ≡ within_at w (out-Ker k).op (out-Ker k).binds (with_within w (out-Ker k).args) sc s t
within-out w k sc s t = ap (λ k. is_within w k sc s t) (sym (roll-out-Ker k)) ∙ within-roll w (out-Ker k) sc s t

-- the operators that evaluate all their children
abbrev pub is_plain : KerOp → Bool
is_plain (ker.Const v) = false
is_plain ker.NoCase = false
is_plain ker.And = false
is_plain ker.Or = false
is_plain ker.If = false
is_plain ker.Some = false
is_plain ker.Every = false
is_plain ker.Filter = false
is_plain ker.MapOver = false
is_plain ker.FunOf = false
is_plain ker.Update = false
is_plain ker.FoldLeft = false
is_plain ker.Range = false
is_plain o = true

module _ (w : Width) (s t : State) where
  -- the tree's ranges lie within their bounds
  abbrev pub Lies : Scope → Ker → Type 0
  Lies sc k = is_within w k sc s t ≡ true

  abbrev pub AllLie : Scope → List Ker → Type 0
  AllLie sc [] = Unit {0}
  AllLie sc (k ∷ ks) = Lies sc k × AllLie sc ks

  all_lie : (sc : Scope) (ks : List Ker) → all_within (with_within w ks) sc s t ≡ true → AllLie sc ks
  all_lie sc [] h = tt
  all_lie sc (k ∷ ks) h =
      let a : Bool = is_within w k sc s t in
      let r : Bool = all_within (with_within w ks) sc s t in
      (and_left a r h, all_lie sc ks (and_right a r h))

  -- ---- operators that evaluate all their children

  pub plain_at : (o : KerOp) (xs : List ℕ) (ks : List Child) (sc : Scope) → is_plain o ≡ true →
      within_at w o xs ks sc s t ≡ all_within ks sc s t
  plain_at (ker.Const v) xs ks sc h = absurd (false≢true h)
  plain_at ker.NoCase xs ks sc h = absurd (false≢true h)
  plain_at ker.And xs ks sc h = absurd (false≢true h)
  plain_at ker.Or xs ks sc h = absurd (false≢true h)
  plain_at ker.If xs ks sc h = absurd (false≢true h)
  plain_at ker.Some xs ks sc h = absurd (false≢true h)
  plain_at ker.Every xs ks sc h = absurd (false≢true h)
  plain_at ker.Filter xs ks sc h = absurd (false≢true h)
  plain_at ker.MapOver xs ks sc h = absurd (false≢true h)
  plain_at ker.FunOf xs ks sc h = absurd (false≢true h)
  plain_at ker.Update xs ks sc h = absurd (false≢true h)
  plain_at ker.FoldLeft xs ks sc h = absurd (false≢true h)
  plain_at ker.Range xs ks sc h = absurd (false≢true h)
  plain_at o xs ks sc h = refl

  pub plain_lies : (o : KerOp) (xs : List ℕ) (ks : List Ker) (sc : Scope) → is_plain o ≡ true →
      within_at w o xs (with_within w ks) sc s t ≡ true → AllLie sc ks
  plain_lies o xs ks sc h e = all_lie sc ks (sym (plain_at o xs (with_within w ks) sc h) ∙ e)

  -- ---- early stop

  goes : (b rest : Bool) (o : Outcome) → goes_on b o rest ≡ true → o ≡ yes_no b → rest ≡ true
  goes b rest o h e = sym (truths b) ∙ sym (ap (λ o. goes_on b o rest) e) ∙ h
    where
      same : (b : Bool) → followed b (layer.Bool b) rest ≡ rest
      same true = refl
      same false = refl

      truths : (b : Bool) → goes_on b (yes_no b) rest ≡ rest
      truths b = ap (λ l. followed b l rest) (value.outs-Bool b) ∙ same b

  -- the first operand, and the others where it is this truth value
  pub turn_lies : (b : Bool) (k : Ker) (ks : List Ker) (sc : Scope) →
      in_turn w b (with_within w (k ∷ ks)) sc s t ≡ true →
      Lies sc k × (ker_val w k sc s t ≡ yes_no b → in_turn w b (with_within w ks) sc s t ≡ true)
  turn_lies b k ks sc h =
      let a : Bool = is_within w k sc s t in
      let r : Bool = in_turn w b (with_within w ks) sc s t in
      let rest : Bool = goes_on b (ker_val w k sc s t) r in
      (and_left a rest h, λ e. goes b r (ker_val w k sc s t) (and_right a rest h) e)

  -- a guard, and each branch where the guard takes it
  pub if_lies : (xs : List ℕ) (c x y : Ker) (sc : Scope) →
      within_at w ker.If xs (with_within w (c ∷ x ∷ y ∷ [])) sc s t ≡ true →
      Lies sc c × (ker_val w c sc s t ≡ yes_no true → Lies sc x) × (ker_val w c sc s t ≡ yes_no false → Lies sc y)
  if_lies xs c x y sc h =
      let a : Bool = is_within w c sc s t in
      let o : Outcome = ker_val w c sc s t in
      let p : Bool = is_within w x sc s t in
      let q : Bool = is_within w y sc s t in
      let r = and_right a (goes_on true o p && goes_on false o q) h in (
        and_left a (goes_on true o p && goes_on false o q) h,
        λ e. goes true p o (and_left (goes_on true o p) (goes_on false o q) r) e,
        λ e. goes false q o (and_right (goes_on true o p) (goes_on false o q) r) e,
      )

  -- ---- an update: the right side where the index has something

  old_lies : (test : Value → Bool) (o q : Outcome) → at_old test o q ≡ true →
      (f i old : Value) → o ≡ Val f → q ≡ Val i →
      step_into (out-Value f) i ≡ At old → test old ≡ true
  old_lies test o q h f i old d e r =
      sym (ap (reached_within test) r) ∙ sym (ap₂ (at_old test) d e) ∙ h

  pub update_lies : (xs : List ℕ) (f i e : Ker) (sc : Scope) →
      within_at w ker.Update xs (with_within w (f ∷ i ∷ e ∷ [])) sc s t ≡ true →
      Lies sc f × Lies sc i
      × ((v u old : Value) → ker_val w f sc s t ≡ Val v → ker_val w i sc s t ≡ Val u →
      step_into (out-Value v) u ≡ At old →
      Lies (bind (names_of xs) (old ∷ []) sc) e)
  update_lies xs f i e sc h =
      let a : Bool = is_within w f sc s t in
      let b : Bool = is_within w i sc s t in
      let test : Value → Bool = λ v. is_within w e (bind (names_of xs) (v ∷ []) sc) s t in
      let r : Bool = at_old test (ker_val w f sc s t) (ker_val w i sc s t) in
      let g = and_left (a && b) r h in
      let old = old_lies test (ker_val w f sc s t) (ker_val w i sc s t) (and_right (a && b) r h) in
      (and_left a b g, and_right a b g, old)

  -- ---- a range: its ends, and its numbers between its bounds

  pub trees_of : (ks : List Ker) → map (λ (k : Child). k.0) (with_within w ks) ≡ ks
  trees_of [] = refl
  trees_of (k ∷ ks) = ap (λ l. k ∷ l) (trees_of ks)

  pub range_numbers : (xs : List ℕ) (x y : Ker) (bounds : List Ker) (sc : Scope) →
      within_at w ker.Range xs (with_within w (x ∷ y ∷ bounds)) sc s t ≡ true →
      Lies sc x × Lies sc y
      × ((v u : Value) → ker_val w x sc s t ≡ Val v → ker_val w y sc s t ≡ Val u →
      list_all (in_bounds bounds) (numbers_from (out-Value v) (out-Value u)) ≡ true)
  range_numbers xs x y bounds sc h =
      let a : Bool = is_within w x sc s t in
      let b : Bool = is_within w y sc s t in
      let lies : Outcome → Outcome → Bool = range_lies (map (λ (k : Child). k.0) (with_within w bounds)) in
      let r : Bool = lies (ker_val w x sc s t) (ker_val w y sc s t) in
      let g = and_left (a && b) r h in (
        and_left a b g,
        and_right a b g,
        λ v u d e.
            ap (λ ks. list_all (in_bounds ks) (numbers_from (out-Value v) (out-Value u))) (sym (trees_of bounds))
            ∙ sym (ap₂ lies d e)
            ∙ and_right (a && b) r h,
      )

  -- ---- bodies: at all choices of members of the sets

  pub choices_are : (os : List Outcome) (xss : List (List Value)) → joined os ≡ NoFault →
      all_set_items (values os) ≡ Some xss →
      choices_of os ≡ choices xss
  choices_are os xss d e = ap (λ f. choices_without f (values os)) d ∙ ap choices_in e

  pub fronts : (ks : List Ker) (body : Ker) → take (length ks) (with_within w (ks ++ body ∷ [])) ≡ with_within w ks
  fronts [] body = refl
  fronts (k ∷ ks) body = ap (λ (l : List Child). (k, is_within w k) ∷ l) (fronts ks body)

  pub ends : (ks : List Ker) (body : Ker) →
      drop (length ks) (with_within w (ks ++ body ∷ [])) ≡ (body, is_within w body) ∷ []
  ends [] body = refl
  ends (k ∷ ks) body = ends ks body

  pub outs : (sc : Scope) (ks : List Ker) →
      map (λ (k : Child). gives w k sc s t) (with_within w ks) ≡ map (λ k. ker_val w k sc s t) ks
  outs sc [] = refl
  outs sc (k ∷ ks) = ap (λ (os : List Outcome). ker_val w k sc s t ∷ os) (outs sc ks)

  -- the sets, and where these have no fault and are sets the body at all choices of their members
  abbrev pub by_parts : List ℕ → Scope → List Child → List Child → Bool
  by_parts xs sc sets bodies =
      all_within sets sc s t
      && list_all (λ vs. body_within bodies (bind (names_of xs) vs sc) s t)
      (choices_of (map (λ (k : Child). gives w k sc s t) sets))

  pub members_lie : (xs : List ℕ) (ks : List Ker) (body : Ker) (sc : Scope) → length ks ≡ length xs →
      at_members w xs (with_within w (ks ++ body ∷ [])) sc s t ≡ true →
      AllLie sc ks
      × ((xss : List (List Value)) → joined (map (λ k. ker_val w k sc s t) ks) ≡ NoFault →
      all_set_items (values (map (λ k. ker_val w k sc s t) ks)) ≡ Some xss →
      list_all (λ vs. is_within w body (bind (names_of xs) vs sc) s t) (choices xss) ≡ true)
  members_lie xs ks body sc n h =
      let whole : List Child = with_within w (ks ++ body ∷ []) in
      let e : by_parts xs sc (with_within w ks) ((body, is_within w body) ∷ []) ≡ true =
      sym (ap₂ (by_parts xs sc) (fronts ks body) (ends ks body))
      ∙ ap (λ m. by_parts xs sc (take m whole) (drop m whole)) n
      ∙ h in
      let a : Bool = all_within (with_within w ks) sc s t in
      let r : Bool = list_all (λ vs. is_within w body (bind (names_of xs) vs sc) s t)
      (choices_of (map (λ (k : Child). gives w k sc s t) (with_within w ks))) in (
        all_lie sc ks (and_left a r e),
        λ xss d q.
            sym (ap (λ vss. list_all (λ vs. is_within w body (bind (names_of xs) vs sc) s t) vss)
            (ap choices_of (outs sc ks) ∙ choices_are (map (λ k. ker_val w k sc s t) ks) xss d q))
            ∙ and_right a r e,
      )

  -- ---- a fold: its first value and its sequence, and the body at each step that is evaluated

  pub fold_lies : (xs : List ℕ) (e f q : Ker) (sc : Scope) →
      within_at w ker.FoldLeft xs (with_within w (e ∷ f ∷ q ∷ [])) sc s t ≡ true →
      Lies sc f × Lies sc q
      × ((v u : Value) (ps : List (Value × Value)) (items : List Value) → ker_val w f sc s t ≡ Val v →
      ker_val w q sc s t ≡ Val u →
      out-Value u ≡ layer.Fun ps → items_of ps ≡ Some items →
      each_step (λ a b. ker_val w e (bind (names_of xs) (a ∷ b ∷ []) sc) s t)
      (λ a b. is_within w e (bind (names_of xs) (a ∷ b ∷ []) sc) s t) items v ≡ true)
  fold_lies xs e f q sc h =
      let a : Bool = is_within w f sc s t in
      let b : Bool = is_within w q sc s t in
      let body : Value → Value → Outcome = λ a b. ker_val w e (bind (names_of xs) (a ∷ b ∷ []) sc) s t in
      let test : Value → Value → Bool = λ a b. is_within w e (bind (names_of xs) (a ∷ b ∷ []) sc) s t in
      let r : Bool = at_steps body test (ker_val w f sc s t) (ker_val w q sc s t) in
      let g = and_left (a && b) r h in (
        and_left a b g,
        and_right a b g,
        λ v u ps items d k l i.
            sym (ap₂ (at_steps body test) d k
            ∙ ap (over_items (λ xs. each_step body test xs v)) l
            ∙ ap (items_within (λ xs. each_step body test xs v)) i)
            ∙ and_right (a && b) r h,
      )
