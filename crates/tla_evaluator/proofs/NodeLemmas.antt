-- What an evaluation computes at each node, by the outcomes of its children.
use Rattle.std.proofs.Common.{◌≡◌, ℕ, suc, Bool, true, false, IsTrue, List, [], ◌∷◌, ◌++◌, map, take, drop, replicate, length, refl, ap, ap₂, ◌∙◌, sym, Some, ℤ, if◌then◌else◌}
use Rattle.tla_evaluator.proofs.Words.{Denotation, Expr, Formed, Meaning, Op, Outcome, Place, Scope, State, Update, Val, Value, Wrong, all_indexes, bind, bound_table, bound_to, case_chosen, child, choices, conjoined, denotation_of, denotations, disjoined, drop-map, except, except_marks, find_last, first_updated, fold_over, forms, if_chosen, implied, in_form, inner, map-append, number, on_all_sets, out-Expr, outcomes, outer, over_members, read, role, strict, table, take-map, updates, value_found, values, view}
use Rattle.tla_values.specs.declared.value.Value.TheVariants as value
use Rattle.tla_meaning.specs.declared.op.Op.TheVariants as op
use Rattle.tla_evaluator.specs.inner.Nodes.{bound_at, except_at, fold_at, index_trees, membership_test, node_in, paths_at, updates_at}
use Rattle.tla_evaluator.specs.inner.Readings.{Reading, value_in}
use Rattle.tla_evaluator.specs.Trees.{first_at, first_form_at, forms_at, expanded_meaning, outcomes_at, scope_at, is_expanded_op, value_at}
use Rattle.tla_evaluator.proofs.BranchLemmas.{case_value, first_value, if_value}
use Rattle.tla_evaluator.proofs.TreeLemmas.{first_given, forms_given, here_given, inner_back, inner_child, outcomes_given, outer_back, outer_front, sense_at, sense_gone}

module _ (w : ℕ) (p : Place) (xs : List (List ℕ)) (vars : List (List ℕ × Value)) (s t : State) where
  abbrev pub children : List Expr → List Meaning
  children es = map (expanded_meaning (Some w)) es

  abbrev scope : Scope
  scope = scope_at vars

  pub here_outcomes : (es : List Expr) → outcomes (outer p [] (children es) scope) s t ≡ outcomes_at w es vars s t
  here_outcomes es = ap (λ (as' : List Denotation). outcomes as' s t) (here_given w vars s t p es) ∙ outcomes_given w vars s t es

  pub here_forms : (es : List Expr) → forms (outer p [] (children es) scope) s t ≡ forms_at w es vars s t
  here_forms es = ap (λ (as' : List Denotation). forms as' s t) (here_given w vars s t p es) ∙ forms_given w vars s t es

  here_first : (es : List Expr) → (child p 0 (outer p [] (children es) scope)).value s t ≡ first_at w p es vars s t
  here_first [] = refl
  here_first (e ∷ es) = refl

  pub here_first_form : (es : List Expr) → (child p 0 (outer p [] (children es) scope)).form s t ≡ first_form_at w p es vars s t
  here_first_form [] = refl
  here_first_form (e ∷ es) = refl

  -- the child that stands under the bound names, where these have values
  under_value : (n : ℕ) (ms : List Bool) (vs : List Value) (es : List Expr) →
      (child p n (inner p (replicate n false ++ true ∷ ms) (children es) (bind xs vs scope))).value s t ≡ first_at w p (drop n es) (vars ++ bound_to xs vs) s t
  under_value n ms vs es =
      ap (λ (a : Denotation). a.value s t) (inner_child p n ms (children es) (bind xs vs scope)
      ∙ ap (λ (ks : List Meaning). child p 0 (denotations ks (bind xs vs scope))) (drop-map (expanded_meaning (Some w)) n es))
      ∙ first_given w (vars ++ bound_to xs vs) s t p (drop n es)

  front_outcomes : (n : ℕ) (ms : List Bool) (es : List Expr) →
      outcomes (take n (outer p (replicate n false ++ true ∷ ms) (children es) scope)) s t ≡ outcomes_at w (take n es) vars s t
  front_outcomes n ms es =
      ap (λ (as' : List Denotation). outcomes as' s t) (outer_front p n ms (children es) scope
      ∙ ap (λ (ks : List Meaning). denotations ks scope) (take-map (expanded_meaning (Some w)) n es))
      ∙ outcomes_given w vars s t (take n es)

  -- ---- EXCEPT

  indexes_given : (ns : List ℕ) (es : List Expr) →
      outcomes (all_indexes ns (outer p (except_marks ns) (children es) scope)) s t ≡ outcomes_at w (index_trees ns es) vars s t
  indexes_given [] es = refl
  indexes_given (n ∷ ns) es =
      let all : List Denotation = outer p (except_marks (n ∷ ns)) (children es) scope in
      let rest : List Denotation = outer p (except_marks ns) (children (drop (suc n) es)) scope in
      map-append (λ a. a.value s t) (take n all) (all_indexes ns (drop (suc n) all))
      ∙ ap₂ (λ (os qs : List Outcome). os ++ qs) (front_outcomes n (except_marks ns) es)
      (ap (λ (as' : List Denotation). outcomes (all_indexes ns as') s t) (outer_back p n (except_marks ns) (children es) scope
      ∙ ap (λ (ks : List Meaning). outer p (except_marks ns) ks scope) (drop-map (expanded_meaning (Some w)) (suc n) es))
      ∙ indexes_given ns (drop (suc n) es))
      ∙ sym (map-append (λ e. value_at w e vars s t) (take n es) (index_trees ns (drop (suc n) es)))

  abbrev underneath : List Bool → List Expr → List Value → List Denotation
  underneath ms es vs = inner p ms (children es) (bind xs vs scope)

  updates_given : (ns : List ℕ) (es : List Expr) →
      updates p ns (outer p (except_marks ns) (children es) scope) (underneath (except_marks ns) es) s t ≡ updates_at w p xs (paths_at w ns es vars s t) es vars s t
  updates_given [] es = refl
  updates_given (n ∷ ns) es =
      let ms : List Bool = except_marks ns in
      ap₂ (λ (u : Update) (us : List Update). u ∷ us)
      (ap₂ (λ (vs : List Value) (f : Value → Outcome). (vs, f)) (ap values (front_outcomes n ms es)) (λ i. λ old. under_value n ms (old ∷ []) es i))
      (ap₂ (λ (as' : List Denotation) (f : List Value → List Denotation). updates p ns as' f s t)
      (outer_back p n ms (children es) scope ∙ ap (λ (ks : List Meaning). outer p ms ks scope) (drop-map (expanded_meaning (Some w)) (suc n) es))
      (λ i. λ vs. (inner_back p n ms (children es) (bind xs vs scope) ∙ ap (λ (ks : List Meaning). inner p ms ks (bind xs vs scope)) (drop-map (expanded_meaning (Some w)) (suc n) es)) i)
      ∙ updates_given ns (drop (suc n) es))

  except_given : (ns : List ℕ) (es : List Expr) →
      except_at w p ns xs es vars s t
      ≡ except p ns (outer p (false ∷ except_marks ns) (children es) scope) (λ vs. inner p (false ∷ except_marks ns) (children es) (bind xs vs scope)) s t
  except_given ns [] = refl
  except_given ns (e ∷ es) =
      sym (ap₂ (λ (os : List Outcome) (us : List Update). strict (value_at w e vars s t ∷ os) (first_updated p us)) (indexes_given ns es) (updates_given ns es))

  -- ---- folds and binders

  fold_given : (es : List Expr) →
      fold_at w p xs es vars s t
      ≡ strict (outcomes (drop 1 (outer p (true ∷ []) (children es) scope)) s t)
      (fold_over p (λ a b. (child p 0 (inner p (true ∷ []) (children es) (bind xs (a ∷ b ∷ []) scope))).value s t))
  fold_given es =
      sym (ap₂ (λ (os : List Outcome) (f : Value → Value → Outcome). strict os (fold_over p f))
      (ap (λ (as' : List Denotation). outcomes as' s t) (outer_back p 0 [] (children es) scope ∙ ap (λ (ks : List Meaning). outer p [] ks scope) (drop-map (expanded_meaning (Some w)) 1 es))
      ∙ here_outcomes (drop 1 es))
      (λ i. λ a b. under_value 0 [] (a ∷ b ∷ []) es i))

  bound_given : (o : Op) (es : List Expr) →
      bound_at w p o xs es vars s t ≡ over_members p o (length xs) (view p (role op.Exists (length xs)) xs (children es) scope) s t
  bound_given o es =
      sym (ap₂ (λ (os : List Outcome) (f : List Value → Outcome). strict os (on_all_sets p (λ xss. strict (map f (choices xss)) (bound_table p o (choices xss)))))
      (front_outcomes (length xs) [] es)
      (λ i. λ vs. under_value (length xs) [] vs es i))

module _ (w : ℕ) (e : Expr) (vars : List (List ℕ × Value)) (s t : State) where
  abbrev place : Place
  place = (out-Expr e).place

  abbrev trees : List Expr
  trees = (out-Expr e).args

  abbrev names : List (List ℕ)
  names = (out-Expr e).binds

  value_is : (o : Op) → (out-Expr e).op ≡ o → IsTrue (is_expanded_op o) →
      value_at w e vars s t ≡ (denotation_of (Some w) place o (length names) (view place (role o (length names)) names (children w place names vars s t trees) (scope_at vars))).value s t
  value_is o is h = ap (λ (a : Denotation). a.value s t) (sense_at (Some w) e (scope_at vars) o is h)

  gone_is : is_expanded_op (out-Expr e).op ≡ false → Wrong place ≡ value_at w e vars s t
  gone_is h = sym (ap (λ (a : Denotation). a.value s t) (sense_gone (Some w) e (scope_at vars) h))

  bool_is : (b : Bool) → (out-Expr e).op ≡ op.Bool b → Val (value.Bool b) ≡ value_at w e vars s t
  bool_is b is = sym (value_is (op.Bool b) is refl)

  int_is : (n : ℤ) → (out-Expr e).op ≡ op.Int n → number (Some w) place n ≡ value_at w e vars s t
  int_is n is = sym (value_is (op.Int n) is refl)

  text_is : (a : List ℕ) → (out-Expr e).op ≡ op.Str a → Val (value.Text a) ≡ value_at w e vars s t
  text_is a is = sym (value_is (op.Str a) is refl)

  name_is : (i : ℕ) (primed : Bool) (r : State) → (out-Expr e).op ≡ op.Name i primed → r ≡ (if primed then t else s) → read place i r ≡ value_at w e vars s t
  name_is i primed r is h = ap (read place i) h ∙ sym (value_is (op.Name i primed) is refl)

  bound_is : (x : List ℕ) → (out-Expr e).op ≡ op.Bound x → value_found place (find_last x vars) ≡ value_at w e vars s t
  bound_is x is = sym (value_is (op.Bound x) is refl)

  -- where the node's value is this of its children's
  by_children : (o : Op) → (out-Expr e).op ≡ o → IsTrue (is_expanded_op o) → (a : List Outcome → List Formed → Outcome) →
      (denotation_of (Some w) place o (length names) (view place (role o (length names)) names (children w place names vars s t trees) (scope_at vars))).value s t
      ≡ a (outcomes (outer place [] (children w place names vars s t trees) (scope_at vars)) s t) (forms (outer place [] (children w place names vars s t trees) (scope_at vars)) s t) →
      a (outcomes_at w trees vars s t) (forms_at w trees vars s t) ≡ value_at w e vars s t
  by_children o is h a same =
      sym (value_is o is h ∙ same ∙ ap₂ a (here_outcomes w place names vars s t trees) (here_forms w place names vars s t trees))

  by_binder : (o : Op) → (out-Expr e).op ≡ o → IsTrue (is_expanded_op o) →
      over_members place o (length names) (view place (role op.Exists (length names)) names (children w place names vars s t trees) (scope_at vars)) s t
      ≡ (denotation_of (Some w) place o (length names) (view place (role o (length names)) names (children w place names vars s t trees) (scope_at vars))).value s t →
      bound_at w place o names trees vars s t ≡ value_at w e vars s t
  by_binder o is h same = bound_given w place names vars s t o trees ∙ same ∙ sym (value_is o is h)

  except_is : (ns : List ℕ) → (out-Expr e).op ≡ op.Except ns → except_at w place ns names trees vars s t ≡ value_at w e vars s t
  except_is ns is = except_given w place names vars s t ns trees ∙ sym (value_is (op.Except ns) is refl)

  fold_is : (out-Expr e).op ≡ op.Fold → fold_at w place names trees vars s t ≡ value_at w e vars s t
  fold_is is = fold_given w place names vars s t trees ∙ sym (value_is op.Fold is refl)

  noted_is : (x : List ℕ) → (out-Expr e).op ≡ op.Noted x → first_at w place trees vars s t ≡ value_at w e vars s t
  noted_is x is = sym (value_is (op.Noted x) is refl ∙ here_first w place names vars s t trees)

-- a tree means what its node gives
pub node_is : (r : Reading) (e : Expr) → node_in r (out-Expr e).place (out-Expr e).op (out-Expr e).binds (out-Expr e).args ≡ value_in r e
node_is r e = by (out-Expr e).op refl
  where
    by : (o : Op) → (out-Expr e).op ≡ o → node_in r (out-Expr e).place o (out-Expr e).binds (out-Expr e).args ≡ value_in r e
    by (op.Bool b) is = bool_is r.width e r.bound r.state r.next b is
    by (op.Int n) is = int_is r.width e r.bound r.state r.next n is
    by (op.Str a) is = text_is r.width e r.bound r.state r.next a is
    by (op.Name i primed) is = name_is r.width e r.bound r.state r.next i primed (if primed then r.next else r.state) is refl
    by (op.Bound x) is = bound_is r.width e r.bound r.state r.next x is
    by op.And is = by_children r.width e r.bound r.state r.next op.And is refl (λ os fs. conjoined (out-Expr e).place os) refl
    by op.Or is = by_children r.width e r.bound r.state r.next op.Or is refl (λ os fs. disjoined (out-Expr e).place os) refl
    by op.Implies is = by_children r.width e r.bound r.state r.next op.Implies is refl (λ os fs. implied (out-Expr e).place os) refl
    by op.If is = if_value r (out-Expr e).place (out-Expr e).args ∙ by_children r.width e r.bound r.state r.next op.If is refl (λ os fs. if_chosen (out-Expr e).place os) refl
    by (op.Case other) is = case_value r (out-Expr e).place (out-Expr e).args ∙ by_children r.width e r.bound r.state r.next (op.Case other) is refl (λ os fs. case_chosen (out-Expr e).place os) refl
    by op.In is = by_children r.width e r.bound r.state r.next op.In is refl (in_form (out-Expr e).place (membership_test op.In (out-Expr e).place)) refl
    by op.NotIn is = by_children r.width e r.bound r.state r.next op.NotIn is refl (in_form (out-Expr e).place (membership_test op.NotIn (out-Expr e).place)) refl
    by op.SubsetEq is = by_children r.width e r.bound r.state r.next op.SubsetEq is refl (in_form (out-Expr e).place (membership_test op.SubsetEq (out-Expr e).place)) refl
    by op.Exists is = by_binder r.width e r.bound r.state r.next op.Exists is refl refl
    by op.Forall is = by_binder r.width e r.bound r.state r.next op.Forall is refl refl
    by op.Filter is = by_binder r.width e r.bound r.state r.next op.Filter is refl refl
    by op.MapTo is = by_binder r.width e r.bound r.state r.next op.MapTo is refl refl
    by op.Lambda is = by_binder r.width e r.bound r.state r.next op.Lambda is refl refl
    by (op.Except ns) is = except_is r.width e r.bound r.state r.next ns is
    by op.Fold is = fold_is r.width e r.bound r.state r.next is
    by (op.Noted x) is = first_value r (out-Expr e).place (out-Expr e).args ∙ noted_is r.width e r.bound r.state r.next x is
    by (op.Use x) is = gone_is r.width e r.bound r.state r.next (ap is_expanded_op is)
    by (op.Param x) is = gone_is r.width e r.bound r.state r.next (ap is_expanded_op is)
    by (op.Let ds) is = gone_is r.width e r.bound r.state r.next (ap is_expanded_op is)
    by op.Prime is = gone_is r.width e r.bound r.state r.next (ap is_expanded_op is)
    by op.Unchanged is = gone_is r.width e r.bound r.state r.next (ap is_expanded_op is)
    by op.Boxed is = gone_is r.width e r.bound r.state r.next (ap is_expanded_op is)
    by op.Angled is = gone_is r.width e r.bound r.state r.next (ap is_expanded_op is)
    by o is = by_children r.width e r.bound r.state r.next o is refl (λ os fs. strict os (table (Some r.width) (out-Expr e).place o)) refl
