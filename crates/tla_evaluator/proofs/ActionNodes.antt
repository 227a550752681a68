-- What the effect of a tree is, for each operator at its node.
use Rattle.std.specs.Prelude.{if◌then◌else◌}
use Rattle.std.proofs.Common.{◌≡◌, ℕ, zero, suc, ◌<◌, ◌+◌, Bool, true, false, not, ◌||◌, List, [], ◌∷◌, ◌++◌, drop, get_or, length, map, replicate, take, Option, Some, None, option_map, Result, refl, ap, ap₂, ◌∙◌, sym, subst}
use Rattle.tla_evaluator.proofs.Words.{Assignable, Denotation, Effect, Expr, Expr-F, Fault, IsBig, IsWrong, Meaning, NoFault, Op, Outcome, Place, State, Value, absent, all_set_items, any_mentions, both_assoc, bound_to, case_effect, child, choices, denotation_of, effect_of, effects, effects_and, effects_or, exists_effect, fails_by, false≢true, fold_out-Expr, if_effect, inner, join_faults, joined, list_any, out-Expr, outcomes, outer, role, values, view}
use Rattle.tla_meaning.specs.declared.op.Op.TheVariants as op
use Rattle.tla_evaluator.specs.inner.Readings.{Reading, effect_in, value_in}
use Rattle.tla_evaluator.specs.inner.Effects.{act_in, acts, behind, body_effect, either, exists_at, first_effect}
use Rattle.tla_evaluator.specs.declared.answers.Stop.{Stop}
use Rattle.tla_evaluator.specs.inner.Gives.{GivesEffect}
use Rattle.tla_evaluator.proofs.BranchLemmas.{effect_by_case, effect_by_if}
use Rattle.tla_evaluator.proofs.EvalSteps.{map_next}
use Rattle.tla_evaluator.specs.inner.Mentions.{mentions}
use Rattle.tla_evaluator.specs.Trees.{effect_at, effects_at, expanded_meaning, expanded_node, outcomes_at, scope_at, is_expanded_op, value_at}
use Rattle.tla_evaluator.proofs.MentionLaws.{holds_as}

-- ---- a tree, by its node

-- the sense of a node with this operator in place of its own
abbrev sense_at : ℕ → Expr → List (List ℕ × Value) → Op → Denotation
sense_at w e vars o =
    let x : Expr-F Expr = out-Expr e in
    elim (is_expanded_op o) [
      | true ↦ denotation_of (Some w) x.place o (length x.binds) (view x.place (role o (length x.binds)) x.binds (map (expanded_meaning (Some w)) x.args) (scope_at vars))
      | false ↦ absent x.place
    ]

sense-out : (w : ℕ) (e : Expr) (vars : List (List ℕ × Value)) (o : Op) → (out-Expr e).op ≡ o → expanded_meaning (Some w) e (scope_at vars) ≡ sense_at w e vars o
unfolding expanded_meaning
sense-out w e vars o h =
    ap (λ (k : Meaning). k (scope_at vars)) (fold_out-Expr Meaning (expanded_node (Some w)) e) ∙ ap (sense_at w e vars) h

-- ---- the children

module _ (w : ℕ) (m : Assignable) (p : Place) (vars : List (List ℕ × Value)) (s t : State) where
  effects_here : (es : List Expr) → effects m (outer p [] (map (expanded_meaning (Some w)) es) (scope_at vars)) s t ≡ effects_at w m es vars s t
  effects_here [] = refl
  effects_here (e ∷ es) = ap (λ fs. effect_at w m e vars s t ∷ fs) (effects_here es)

  outcomes_here : (es : List Expr) → outcomes (outer p [] (map (expanded_meaning (Some w)) es) (scope_at vars)) s t ≡ outcomes_at w es vars s t
  outcomes_here [] = refl
  outcomes_here (e ∷ es) = ap (λ os. value_at w e vars s t ∷ os) (outcomes_here es)

  marked_here : (es : List Expr) → any_mentions m (outer p [] (map (expanded_meaning (Some w)) es) (scope_at vars)) ≡ list_any (mentions m) es
  marked_here [] = refl
  marked_here (e ∷ es) = ap₂ ◌||◌ (holds_as (Some w) m e vars) (marked_here es)

  -- the domains of a binder, which stand before its body
  domains_here : (n : ℕ) (es : List Expr) →
      outcomes (take n (outer p (replicate n false ++ true ∷ []) (map (expanded_meaning (Some w)) es) (scope_at vars))) s t ≡ outcomes_at w (take n es) vars s t
  domains_here zero es = refl
  domains_here (suc n) [] = refl
  domains_here (suc n) (e ∷ es) = ap (λ os. value_at w e vars s t ∷ os) (domains_here n es)

  first_here : (es : List Expr) → (child p 0 (outer p [] (map (expanded_meaning (Some w)) es) (scope_at vars))).act m s t ≡ first_effect w m p es vars s t
  first_here [] = refl
  first_here (e ∷ es) = refl

  body_here : (n : ℕ) (es : List Expr) →
      (child p n (inner p (replicate n false ++ true ∷ []) (map (expanded_meaning (Some w)) es) (scope_at vars))).act m s t ≡ first_effect w m p (drop n es) vars s t
  body_here zero [] = refl
  body_here zero (e ∷ es) = refl
  body_here (suc n) [] = refl
  body_here (suc n) (e ∷ es) = body_here n es

-- ---- one lemma for each operator

module _ (w : ℕ) (m : Assignable) (e : Expr) (vars : List (List ℕ × Value)) (s t : State) where
  at_and : (out-Expr e).op ≡ op.And → effect_at w m e vars s t ≡ effects_and (effects_at w m (out-Expr e).args vars s t)
  at_and h =
      ap (λ (a : Denotation). a.act m s t) (sense-out w e vars op.And h) ∙ ap effects_and (effects_here w m (out-Expr e).place vars s t (out-Expr e).args)

  at_noted : (x : List ℕ) → (out-Expr e).op ≡ op.Noted x → effect_at w m e vars s t ≡ first_effect w m (out-Expr e).place (out-Expr e).args vars s t
  at_noted x h =
      ap (λ (a : Denotation). a.act m s t) (sense-out w e vars (op.Noted x) h) ∙ first_here w m (out-Expr e).place vars s t (out-Expr e).args

  abbrev p : Place
  p = (out-Expr e).place

  abbrev args : List Expr
  args = (out-Expr e).args

  abbrev here : List Denotation
  here = outer p [] (map (expanded_meaning (Some w)) args) (scope_at vars)

  -- as the node has it, by whether a child is marked
  abbrev by_mark : Op → Bool → Effect → Effect
  by_mark o b f = if b then f else effect_of ((sense_at w e vars o).value s t)

  unmarked : (o : Op) (f : Effect) → (out-Expr e).op ≡ o →
      (sense_at w e vars o).act m s t ≡ by_mark o (any_mentions m here) f → list_any (mentions m) args ≡ false →
      effect_at w m e vars s t ≡ effect_of (value_at w e vars s t)
  unmarked o f h is k =
      ap (λ (a : Denotation). a.act m s t) (sense-out w e vars o h) ∙ is ∙ ap (λ b. by_mark o b f) (marked_here w m p vars s t args ∙ k)
      ∙ sym (ap (λ (a : Denotation). effect_of (a.value s t)) (sense-out w e vars o h))

  when_marked : (o : Op) (f g : Effect) → (out-Expr e).op ≡ o →
      (sense_at w e vars o).act m s t ≡ by_mark o (any_mentions m here) f → list_any (mentions m) args ≡ true → f ≡ g →
      effect_at w m e vars s t ≡ g
  when_marked o f g h is k same =
      ap (λ (a : Denotation). a.act m s t) (sense-out w e vars o h) ∙ is ∙ ap (λ b. by_mark o b f) (marked_here w m p vars s t args ∙ k) ∙ same

  at_or : (out-Expr e).op ≡ op.Or → list_any (mentions m) args ≡ true → effect_at w m e vars s t ≡ effects_or (effects_at w m args vars s t)
  at_or h k = when_marked op.Or (effects_or (effects m here s t)) _ h refl k (ap effects_or (effects_here w m p vars s t args))

  at_if : (out-Expr e).op ≡ op.If → list_any (mentions m) args ≡ true →
      effect_at w m e vars s t ≡ if_effect p (outcomes_at w args vars s t) (effects_at w m args vars s t)
  at_if h k =
      when_marked op.If (if_effect p (outcomes here s t) (effects m here s t)) _ h refl k
      (ap₂ (if_effect p) (outcomes_here w m p vars s t args) (effects_here w m p vars s t args))

  at_case : (other : Bool) → (out-Expr e).op ≡ op.Case other → list_any (mentions m) args ≡ true →
      effect_at w m e vars s t ≡ case_effect p (outcomes_at w args vars s t) (effects_at w m args vars s t)
  at_case other h k =
      when_marked (op.Case other) (case_effect p (outcomes here s t) (effects m here s t)) _ h refl k
      (ap₂ (case_effect p) (outcomes_here w m p vars s t args) (effects_here w m p vars s t args))

  at_exists : (out-Expr e).op ≡ op.Exists → effect_at w m e vars s t ≡ exists_at w m p (out-Expr e).binds args vars s t
  at_exists h =
      let xs : List (List ℕ) = (out-Expr e).binds in
      let body : List Value → Effect = λ c.
      (child p (length xs) (inner p (replicate (length xs) false ++ true ∷ []) (map (expanded_meaning (Some w)) args) (scope_at (vars ++ bound_to xs c)))).act m s t in
      let same : body ≡ (λ c. first_effect w m p (drop (length xs) args) (vars ++ bound_to xs c) s t) =
      λ i. λ c. body_here w m p (vars ++ bound_to xs c) s t (length xs) args i in
      ap (λ (a : Denotation). a.act m s t) (sense-out w e vars op.Exists h)
      ∙ ap₂ (exists_effect p) (domains_here w m p vars s t (length xs) args) same

-- ---- a tree acts as its node does

module _ (r : Reading) (m : Assignable) (e : Expr) where
  pub act_is_node : acts m (out-Expr e).op (out-Expr e).args ≡ true →
      act_in r m (out-Expr e).place (out-Expr e).op (out-Expr e).binds (out-Expr e).args ≡ effect_in r m e
  act_is_node h = by (out-Expr e).op refl h
    where
      by : (o : Op) → (out-Expr e).op ≡ o → acts m o (out-Expr e).args ≡ true → act_in r m (out-Expr e).place o (out-Expr e).binds (out-Expr e).args ≡ effect_in r m e
      by op.And is k = sym (at_and r.width m e r.bound r.state r.next is)
      by op.Exists is k = sym (at_exists r.width m e r.bound r.state r.next is)
      by (op.Noted x) is k = sym (at_noted r.width m e r.bound r.state r.next x is)
      by op.Or is k = sym (at_or r.width m e r.bound r.state r.next is k)
      by op.If is k = effect_by_if r (out-Expr e).place m (out-Expr e).args ∙ sym (at_if r.width m e r.bound r.state r.next is k)
      by (op.Case other) is k = effect_by_case r (out-Expr e).place m (out-Expr e).args ∙ sym (at_case r.width m e r.bound r.state r.next other is k)
      by o is k = absurd (false≢true k)

  abbrev node : Op → Denotation
  node o = sense_at r.width e r.bound o

  abbrev children : List Denotation
  children = outer (out-Expr e).place [] (map (expanded_meaning (Some r.width)) (out-Expr e).args) (scope_at r.bound)

  pub acts_by_value : acts m (out-Expr e).op (out-Expr e).args ≡ false → effect_of (value_in r e) ≡ effect_in r m e
  acts_by_value h = sym (by (out-Expr e).op refl h)
    where
      -- where a child would be marked the node acts by its parts
      unless : (o : Op) (f : Effect) → (out-Expr e).op ≡ o → (node o).act m r.state r.next ≡ by_mark r.width m e r.bound r.state r.next o (any_mentions m children) f →
          list_any (mentions m) (out-Expr e).args ≡ false → effect_in r m e ≡ effect_of (value_in r e)
      unless o f is same k = unmarked r.width m e r.bound r.state r.next o f is same k

      plain : (o : Op) → (out-Expr e).op ≡ o → (node o).act m r.state r.next ≡ effect_of ((node o).value r.state r.next) → effect_in r m e ≡ effect_of (value_in r e)
      plain o is same =
          ap (λ (a : Denotation). a.act m r.state r.next) (sense-out r.width e r.bound o is) ∙ same
          ∙ sym (ap (λ (a : Denotation). effect_of (a.value r.state r.next)) (sense-out r.width e r.bound o is))

      by : (o : Op) → (out-Expr e).op ≡ o → acts m o (out-Expr e).args ≡ false → effect_in r m e ≡ effect_of (value_in r e)
      by op.And is k = absurd (false≢true (sym k))
      by op.Exists is k = absurd (false≢true (sym k))
      by (op.Noted x) is k = absurd (false≢true (sym k))
      by op.Or is k = unless op.Or (effects_or (effects m children r.state r.next)) is refl k
      by op.If is k = unless op.If (if_effect (out-Expr e).place (outcomes children r.state r.next) (effects m children r.state r.next)) is refl k
      by (op.Case other) is k = unless (op.Case other) (case_effect (out-Expr e).place (outcomes children r.state r.next) (effects m children r.state r.next)) is refl k
      by o is k = plain o is refl

-- ---- members of the domains

module _ (q : Place) (at_choice : List Value → Effect) where
  pub members : Option (List (List Value)) → Effect
  members o = elim o [ None ↦ fails_by (IsWrong q) | Some xss ↦ effects_or (map at_choice (choices xss)) ]

  -- by the fault of the domains
  abbrev by : List Outcome → Fault → Effect
  by os f = elim f as (λ _. Effect) [
    | NoFault ↦ members (all_set_items (values os))
    | IsWrong r ↦ fails_by (IsWrong r)
    | IsBig r ↦ fails_by (IsBig r)
  ]

  pub exists_by : (os : List Outcome) (f : Fault) → joined os ≡ f → exists_effect q os at_choice ≡ by os f
  unfolding members
  exists_by os f h = ap (by os) h

  without_fault : (os : List Outcome) → joined os ≡ NoFault → exists_effect q os at_choice ≡ members (all_set_items (values os))
  unfolding members
  without_fault os h = exists_by os NoFault h

  at_choices : (o : Option (List (List Value))) (cs : List (List Value)) → option_map choices o ≡ Some cs → members o ≡ effects_or (map at_choice cs)
  unfolding members
  at_choices None cs e = absurd (cc)
  at_choices (Some xss) cs e = let same : choices xss ≡ cs = cc in ap (λ yss. effects_or (map at_choice yss)) same

-- ---- what is given

pub effect_gives_as : (r : Result Effect Stop) {f g : Effect} → f ≡ g → GivesEffect f r → GivesEffect g r
effect_gives_as r e h = subst (λ f. GivesEffect f r) e h

-- ---- several effects

pub behind_twice : (f g : Fault) (x : Effect) → behind (join_faults f g) x ≡ behind f (behind g x)
behind_twice f g x = ap (λ h. record { holds = x.holds; fault = h }) (both_assoc f g x.fault)

pub is_not : (b : Bool) → not b ≡ true → b ≡ false
is_not true e = absurd (cc)
is_not false e = refl

pub not_not : (b : Bool) → not b ≡ false → b ≡ true
not_not true e = refl
not_not false e = absurd (cc)

pub and_holds : (one : Effect) (more : List Effect) → one.holds ≡ true → effects_and (one ∷ more) ≡ behind one.fault (effects_and more)
and_holds one more h = ap (λ (b : Bool). elim b as (λ _. Effect) [ true ↦ behind one.fault (effects_and more) | false ↦ one ]) h

pub and_stops : (one : Effect) (more : List Effect) → one.holds ≡ false → effects_and (one ∷ more) ≡ one
and_stops one more h = ap (λ (b : Bool). elim b as (λ _. Effect) [ true ↦ behind one.fault (effects_and more) | false ↦ one ]) h

or_or : (a b c : Bool) → ((a || b) || c) ≡ (a || (b || c))
or_or true b c = refl
or_or false b c = refl

either_twice : (f g h : Effect) → either (either f g) h ≡ either f (either g h)
either_twice f g h = λ i. record { holds = or_or f.holds g.holds h.holds i; fault = both_assoc f.fault g.fault h.fault i }

module _ {X : Type 0} (f : X → Effect) (xs : List X) (i : ℕ) where
  pub and_next : (x : X) (one : Effect) (g k : Fault) (all : Effect) → i < length xs → x ≡ get_or xs i x → one ≡ f x → not one.holds ≡ false → k ≡ join_faults g one.fault →
      behind g (effects_and (map f (drop i xs))) ≡ all → behind k (effects_and (map f (drop (i + 1) xs))) ≡ all
  and_next x one g k all lt is h holds new old =
      let more : List Effect = map f (drop (i + 1) xs) in
      ap (λ z. behind z (effects_and more)) new ∙ behind_twice g one.fault (effects_and more)
      ∙ ap (behind g) (sym (and_holds one more (not_not one.holds holds)) ∙ ap effects_and (sym (map_next f xs i x one lt is h))) ∙ old

  pub or_next : (x : X) (one g k all : Effect) → i < length xs → x ≡ get_or xs i x → one ≡ f x → k ≡ either g one →
      either g (effects_or (map f (drop i xs))) ≡ all → either k (effects_or (map f (drop (i + 1) xs))) ≡ all
  or_next x one g k all lt is h new old =
      let more : List Effect = map f (drop (i + 1) xs) in
      ap (λ z. either z (effects_or more)) new ∙ either_twice g one (effects_or more)
      ∙ ap (λ l. either g (effects_or l)) (sym (map_next f xs i x one lt is h)) ∙ old

module _ (w : ℕ) (m : Assignable) (q : Place) (names : List (List ℕ)) (args : List Expr) (vars : List (List ℕ × Value)) (s t : State) where
  pub exists_body : (sets rest : List Expr) (f : Fault) (vs vs' : List Value) (cs cs' : List (List Value)) →
      sets ≡ take (length names) args → rest ≡ drop (length names) args →
      f ≡ joined (outcomes_at w sets vars s t) → f ≡ NoFault → vs ≡ values (outcomes_at w sets vars s t) → vs' ≡ vs →
      option_map choices (all_set_items vs') ≡ Some cs → cs' ≡ cs →
      effects_or (map (body_effect w m q rest names vars s t) cs') ≡ exists_at w m q names args vars s t
  exists_body sets rest f vs vs' cs cs' front back fault none read same_vs chosen same_cs =
      let bodies : List Expr → List Value → Effect = λ es. body_effect w m q es names vars s t in
      let os : List Outcome = outcomes_at w (take (length names) args) vars s t in
      let calm : joined os ≡ NoFault = ap (λ es. joined (outcomes_at w es vars s t)) (sym front) ∙ sym fault ∙ none in
      let items : all_set_items (values os) ≡ all_set_items vs' =
      ap all_set_items (ap (λ es. values (outcomes_at w es vars s t)) (sym front) ∙ sym read ∙ sym same_vs) in
      ap (λ yss. effects_or (map (bodies rest) yss)) same_cs
      ∙ ap (λ es. effects_or (map (bodies es) cs)) back
      ∙ sym (at_choices q (bodies (drop (length names) args)) (all_set_items (values os)) cs (ap (option_map choices) items ∙ chosen))
      ∙ sym (without_fault q (bodies (drop (length names) args)) os calm)
