-- What a tree gives depends only on the names that it reads in the two states.
use Rattle.std.proofs.Common.{◌≡◌, ℕ, zero, suc, Bool, true, false, true≢false, ◌||◌, List, [], ◌∷◌, ◌++◌, map, take, drop, length, refl, sym, ◌∙◌, ap, ap₂, subst, if◌then◌else◌}
use Rattle.std.specs.List.{list_any, slice_get}
use Rattle.tla_values.specs.Order.{Layer}
use Rattle.tla_values.specs.declared.value.Value.{Value, out-Value}
use Rattle.tla_meaning.specs.declared.expr.Expr.{Expr}
use Rattle.tla_meaning.specs.declared.op.Op.{Op}
use Rattle.tla_meaning.specs.declared.place.Place.{Place}
use Rattle.tla_meaning.specs.declared.job.State.{State}
use Rattle.tla_meaning.specs.declared.outcome.Outcome.{Outcome}
use Rattle.tla_meaning.specs.Outcomes.{strict, values}
use Rattle.tla_meaning.specs.Shapes.{choices}
use Rattle.tla_meaning.specs.Forms.{Formed, belongs}
use Rattle.tla_meaning.specs.Operators.{yes_no, table, on_all_sets}
use Rattle.tla_meaning.specs.Numbers.{Width}
use Rattle.kernel_trees.specs.Paths.{Marks, mentions, mentions_at}
use Rattle.tla_meaning.specs.Scopes.{Scope, Denotation, bind, value_found}
use Rattle.tla_meaning.specs.Meaning.{Meaning, denotations, outcomes, forms, child, View, view, Plain_role, role, outer, inner, conjoined, disjoined, if_chosen, case_chosen, in_form, all_in, over_members, bound_table, except, first_updated, fold_over, form_of_one, form_of_all, function_form, plain, value_of, form_of}
use Rattle.tla_meaning.specs.Actions.{meaning, denotation_of}
use Rattle.tla_meaning.specs.FreeNames.{marks}
use Rattle.tla_meaning.proofs.MeaningLemmas.{denotation-roll}
use Rattle.kernel_trees.specs.declared.kernel.Ker.{Ker}
use Rattle.kernel_trees.specs.declared.kernel.KerOp.{KerOp}
use Rattle.kernel_trees.specs.Trees.{as_expr, op_of, operands, constant, names_of, literal, ker_val, ker_form}
use Rattle.kernel_trees.specs.Assignments.{SameBut}
use Rattle.kernel_trees.proofs.Trees.{Each, by_nodes, ker-roll, mentions-roll}
use Rattle.kernel_trees.proofs.Nodes.{sense_at}
use Rattle.tla_values.specs.declared.value.Value.TheOpen as layer
use Rattle.tla_meaning.specs.declared.op.Op.TheVariants as op
use Rattle.kernel_trees.specs.declared.kernel.KerOp.TheVariants as ker
use Rattle.tla_meaning.specs.declared.forms.SetForm.TheVariants.{Sequences, Subsets, Records, Tuples}

module _ (w : Width) (s t s' t' : State) where
  -- the same at both
  abbrev pub Steady : Denotation → Type 0
  Steady a = (a.value s t ≡ a.value s' t') × (a.form s t ≡ a.form s' t')

  outcomes_steady : (as' : List Denotation) → Each Steady as' → outcomes as' s t ≡ outcomes as' s' t'
  outcomes_steady [] h = refl
  outcomes_steady (a ∷ as') h = ap₂ (λ (o : Outcome) (os : List Outcome). o ∷ os) h.0.0 (outcomes_steady as' h.1)

  forms_steady : (as' : List Denotation) → Each Steady as' → forms as' s t ≡ forms as' s' t'
  forms_steady [] h = refl
  forms_steady (a ∷ as') h = ap₂ (λ (o : Formed) (os : List Formed). o ∷ os) h.0.1 (forms_steady as' h.1)

  take_steady : (n : ℕ) (as' : List Denotation) → Each Steady as' → Each Steady (take n as')
  take_steady zero as' h = tt
  take_steady (suc n) [] h = tt
  take_steady (suc n) (a ∷ as') h = (h.0, take_steady n as' h.1)

  drop_steady : (n : ℕ) (as' : List Denotation) → Each Steady as' → Each Steady (drop n as')
  drop_steady zero as' h = h
  drop_steady (suc n) [] h = tt
  drop_steady (suc n) (a ∷ as') h = drop_steady n as' h.1

  kid_steady : (p : Place) (n : ℕ) (as' : List Denotation) → Each Steady as' → Steady (child p n as')
  kid_steady p n [] h = (refl, refl)
  kid_steady p zero (a ∷ as') h = h.0
  kid_steady p (suc n) (a ∷ as') h = kid_steady p n as' h.1

  append_steady : (as' bs : List Denotation) → Each Steady as' → Each Steady bs → Each Steady (as' ++ bs)
  append_steady [] bs h k = k
  append_steady (a ∷ as') bs h k = (h.0, append_steady as' bs h.1 k)

  -- a view whose children are
  abbrev SteadyView : View → Type 0
  SteadyView v = Each Steady v.here × ((vs : List Value) → Each Steady (v.under vs))

  abbrev by_outcomes : Place → Op → List Outcome → Outcome
  by_outcomes p op.And os = conjoined p os
  by_outcomes p op.Or os = disjoined p os
  by_outcomes p op.If os = if_chosen p os
  by_outcomes p (op.Case b) os = case_chosen p os
  by_outcomes p o os = strict os (table w p o)

  over_steady : (p : Place) (o : Op) (n : ℕ) (v : View) → SteadyView v → over_members p o n v s t ≡ over_members p o n v s' t'
  over_steady p o n v h = λ i.
      strict (outcomes_steady (take n v.here) (take_steady n v.here h.0) i)
      (on_all_sets p (λ xss. strict (map (λ vs. (kid_steady p n (v.under vs) (h.1 vs)).0 i) (choices xss)) (bound_table p o (choices xss))))

  fold_steady : (p : Place) (v : View) → SteadyView v →
      strict (outcomes (drop 1 v.here) s t) (fold_over p (λ a b. (child p 0 (v.under (a ∷ b ∷ []))).value s t))
      ≡ strict (outcomes (drop 1 v.here) s' t') (fold_over p (λ a b. (child p 0 (v.under (a ∷ b ∷ []))).value s' t'))
  fold_steady p v h = λ i.
      strict (outcomes_steady (drop 1 v.here) (drop_steady 1 v.here h.0) i)
      (fold_over p (λ a b. (kid_steady p 0 (v.under (a ∷ b ∷ [])) (h.1 (a ∷ b ∷ []))).0 i))

  update_steady : (p : Place) (ks : List Denotation) (under : List Value → List Denotation) → Each Steady ks → ((vs : List Value) → Each Steady (under vs)) →
      except p (1 ∷ []) ks under s t ≡ except p (1 ∷ []) ks under s' t'
  update_steady p [] under h k = refl
  update_steady p (f ∷ ks) under h k = λ i.
      strict (outcomes_steady (f ∷ (take 1 ks ++ [])) (h.0, append_steady (take 1 ks) [] (take_steady 1 ks h.1) tt) i)
      (first_updated p ((
        values (outcomes_steady (take 1 ks) (take_steady 1 ks h.1) i),
        λ old. (kid_steady p 1 (drop 1 (under (old ∷ []))) (drop_steady 1 (under (old ∷ [])) (k (old ∷ [])))).0 i,
      ) ∷ []))

  constant_steady : (p : Place) (l : Layer Value) (n : ℕ) (v : View) → v.here ≡ [] → value_of w p (constant l) n v s t ≡ value_of w p (constant l) n v s' t'
  constant_steady p (layer.Bool b) n v h = refl
  constant_steady p (layer.Int i) n v h = refl
  constant_steady p (layer.Text a) n v h = refl
  constant_steady p (layer.Set xs) n v h = ap (λ as'. case_chosen p (outcomes as' s t)) h ∙ sym (ap (λ as'. case_chosen p (outcomes as' s' t')) h)
  constant_steady p (layer.Fun ps) n v h = ap (λ as'. case_chosen p (outcomes as' s t)) h ∙ sym (ap (λ as'. case_chosen p (outcomes as' s' t')) h)

  constant_form : (p : Place) (l : Layer Value) (n : ℕ) (v : View) (s t : State) → form_of w p (constant l) n v s t ≡ plain (value_of w p (constant l) n v s t)
  constant_form p (layer.Bool b) n v s t = refl
  constant_form p (layer.Int i) n v s t = refl
  constant_form p (layer.Text a) n v s t = refl
  constant_form p (layer.Set xs) n v s t = refl
  constant_form p (layer.Fun ps) n v s t = refl

  -- the names that an operator itself reads
  abbrev Reads : KerOp → Type 0
  Reads (ker.Name i primed) = slice_get (if primed then t else s).vals i ≡ slice_get (if primed then t' else s').vals i
  Reads (ker.Const v) = Unit {0}
  Reads o = Unit {0}

  abbrev Bare : KerOp → View → Type 0
  Bare (ker.Const v) x = x.here ≡ []
  Bare o x = Unit {0}

  value_steady : (p : Place) (o : KerOp) (n : ℕ) (v : View) → SteadyView v → Reads o → Bare o v →
      value_of w p (op_of o) n v s t ≡ value_of w p (op_of o) n v s' t'
  value_steady p (ker.Const c) n v h r b = constant_steady p (out-Value c) n v b
  value_steady p (ker.Name i true) n v h r b = ap (value_found p) r
  value_steady p (ker.Name i false) n v h r b = ap (value_found p) r
  value_steady p (ker.Bound x) n v h r b = refl
  value_steady p ker.Member n v h r b = λ i.
      in_form p (λ v f. yes_no (belongs f v)) (outcomes_steady v.here h.0 i) (forms_steady v.here h.0 i)
  value_steady p ker.Included n v h r b = λ i. in_form p (all_in p) (outcomes_steady v.here h.0 i) (forms_steady v.here h.0 i)
  value_steady p ker.Filter n v h r b = over_steady p op.Filter n v h
  value_steady p ker.MapOver n v h r b = over_steady p op.MapTo n v h
  value_steady p ker.FunOf n v h r b = over_steady p op.Lambda n v h
  value_steady p ker.Some n v h r b = over_steady p op.Exists n v h
  value_steady p ker.Every n v h r b = over_steady p op.Forall n v h
  value_steady p ker.Update n v h r b = update_steady p v.here v.under h.0 h.1
  value_steady p ker.FoldLeft n v h r b = fold_steady p v h
  value_steady p o n v h r b = ap (by_outcomes p (op_of o)) (outcomes_steady v.here h.0)

  form_steady : (p : Place) (o : KerOp) (n : ℕ) (v : View) → SteadyView v → Reads o → Bare o v →
      form_of w p (op_of o) n v s t ≡ form_of w p (op_of o) n v s' t'
  form_steady p (ker.Const c) n v h r b =
      constant_form p (out-Value c) n v s t ∙ ap plain (constant_steady p (out-Value c) n v b) ∙ sym (constant_form p (out-Value c) n v s' t')
  form_steady p ker.IntForm n v h r b = refl
  form_steady p ker.NatForm n v h r b = refl
  form_steady p ker.TextForm n v h r b = refl
  form_steady p ker.SeqForm n v h r b = ap (form_of_one p Sequences) (forms_steady v.here h.0)
  form_steady p ker.Subsets n v h r b = ap (form_of_one p Subsets) (forms_steady v.here h.0)
  form_steady p ker.Functions n v h r b = λ i. function_form p (outcomes_steady v.here h.0 i) (forms_steady v.here h.0 i)
  form_steady p (ker.RecForm names) n v h r b = ap (form_of_all p (Records names)) (forms_steady v.here h.0)
  form_steady p ker.TupForm n v h r b = ap (form_of_all p Tuples) (forms_steady v.here h.0)
  form_steady p o n v h r b = ap plain (value_steady p o n v h r b)

  -- ---- children

  abbrev SteadyIn : Meaning → Type 0
  SteadyIn k = (sc : Scope) → Steady (k sc)

  outer_steady : (p : Place) (ms : List Bool) (ks : List Meaning) (sc : Scope) → Each SteadyIn ks → Each Steady (outer p ms ks sc)
  outer_steady p ms [] sc h = tt
  outer_steady p [] (k ∷ ks) sc h = (h.0 sc, outer_steady p [] ks sc h.1)
  outer_steady p (true ∷ ms) (k ∷ ks) sc h = ((refl, refl), outer_steady p ms ks sc h.1)
  outer_steady p (false ∷ ms) (k ∷ ks) sc h = (h.0 sc, outer_steady p ms ks sc h.1)

  inner_steady : (p : Place) (ms : List Bool) (ks : List Meaning) (sc : Scope) → Each SteadyIn ks → Each Steady (inner p ms ks sc)
  inner_steady p ms [] sc h = tt
  inner_steady p [] (k ∷ ks) sc h = ((refl, refl), inner_steady p [] ks sc h.1)
  inner_steady p (true ∷ ms) (k ∷ ks) sc h = (h.0 sc, inner_steady p ms ks sc h.1)
  inner_steady p (false ∷ ms) (k ∷ ks) sc h = ((refl, refl), inner_steady p ms ks sc h.1)

  plain_steady : (p : Place) (ms : List Bool) (xs : List (List ℕ)) (ks : List Meaning) (sc : Scope) → Each SteadyIn ks →
      SteadyView (view p (Plain_role ms) xs ks sc)
  plain_steady p ms xs ks sc h = (outer_steady p ms ks sc h, λ vs. inner_steady p ms ks (bind xs vs sc) h)

  senses_steady : (ks : List Meaning) (sc : Scope) → Each SteadyIn ks → Each Steady (denotations ks sc)
  senses_steady [] sc h = tt
  senses_steady (k ∷ ks) sc h = (h.0 sc, senses_steady ks sc h.1)

  constant_sense : (p : Place) (l : Layer Value) (n : ℕ) (xs : List (List ℕ)) (sc : Scope) →
      Steady (denotation_of w p (constant l) n (view p (role (constant l) n) xs [] sc))
  constant_sense p (layer.Bool b) n xs sc = (refl, refl)
  constant_sense p (layer.Int i) n xs sc = (refl, refl)
  constant_sense p (layer.Text a) n xs sc = (refl, refl)
  constant_sense p (layer.Set vs) n xs sc = (refl, refl)
  constant_sense p (layer.Fun ps) n xs sc = (refl, refl)

  sense_steady : (p : Place) (o : KerOp) (n : ℕ) (xs : List ℕ) (es : List Expr) (sc : Scope) →
      Each SteadyIn (map (meaning w) (operands o p es)) → Reads o →
      Steady (denotation_of w p (op_of o) n (view p (role (op_of o) n) (names_of xs) (map (meaning w) (operands o p es)) sc))
  sense_steady p (ker.Const c) n xs es sc h r = constant_sense p (out-Value c) n (names_of xs) sc
  sense_steady p (ker.Bound x) n xs es sc h r = (refl, refl)
  sense_steady p o n xs es sc h r =
      let v : SteadyView (view p (role (op_of o) n) (names_of xs) (map (meaning w) (operands o p es)) sc) =
      plain_steady p (marks (role (op_of o) n)) (names_of xs) (map (meaning w) (operands o p es)) sc h in (
        value_steady p o n (view p (role (op_of o) n) (names_of xs) (map (meaning w) (operands o p es)) sc) v r tt,
        form_steady p o n (view p (role (op_of o) n) (names_of xs) (map (meaning w) (operands o p es)) sc) v r tt,
      )

or_first : (a b : Bool) → (a || b) ≡ false → a ≡ false
or_first true b h = h
or_first false b h = refl

or_rest : (a b : Bool) → (a || b) ≡ false → b ≡ false
or_rest true b h = absurd (true≢false h)
or_rest false b h = h

module _ (w : Width) (m : Marks) (s t s' t' : State) (same : SameBut m s t s' t') where
  abbrev Kept : Ker → Type 0
  Kept k = mentions m k ≡ false → SteadyIn w s t s' t' (meaning w (as_expr k))

  children : (ks : List Ker) → Each Kept ks → list_any (λ b. b) (map (mentions m) ks) ≡ false → Each (SteadyIn w s t s' t') (map (meaning w) (map as_expr ks))
  children [] h q = tt
  children (k ∷ ks) h q = (
    h.0 (or_first (mentions m k) (list_any (λ b. b) (map (mentions m) ks)) q),
    children ks h.1 (or_rest (mentions m k) (list_any (λ b. b) (map (mentions m) ks)) q),
  )

  first_two : (ks : List Ker) → Each Kept ks → list_any (λ b. b) (take 2 (map (mentions m) ks)) ≡ false → Each (SteadyIn w s t s' t') (map (meaning w) (take 2 (map as_expr ks)))
  first_two [] h q = tt
  first_two (a ∷ []) h q = (h.0 (or_first (mentions m a) false q), tt)
  first_two (a ∷ b ∷ ks) h q =
      (h.0 (or_first (mentions m a) (mentions m b || false) q), (h.1.0 (or_first (mentions m b) false (or_rest (mentions m a) (mentions m b || false) q)), tt))

  with_literal : (p : Place) (i : ℕ) (es : List Expr) → Each (SteadyIn w s t s' t') (map (meaning w) es) → Each (SteadyIn w s t s' t') (map (meaning w) (es ++ literal p i ∷ []))
  with_literal p i [] h = (λ sc. subst (Steady w s t s' t') (sym (denotation-roll w _ sc)) (refl, refl), tt)
  with_literal p i (e ∷ es) h = (h.0, with_literal p i es h.1)

  node_steady : (p : Place) (o : KerOp) (n : ℕ) (xs : List ℕ) (ks : List Ker) (sc : Scope) → Each Kept ks → mentions_at m o (map (mentions m) ks) ≡ false →
      Steady w s t s' t' (sense_at w p o n xs ks sc)
  node_steady p (ker.Const c) n xs ks sc h q = sense_steady w s t s' t' p (ker.Const c) n xs (map as_expr ks) sc tt tt
  node_steady p ker.NoCase n xs ks sc h q = sense_steady w s t s' t' p ker.NoCase n xs (map as_expr ks) sc tt tt
  node_steady p (ker.Name i primed) n xs ks sc h q =
      let a : State → State → Denotation → Outcome = λ s t a. a.value s t in
      (ap (value_found p) (same i primed q), ap (λ o. plain (value_found p o)) (same i primed q))
  node_steady p (ker.Item i) n xs ks sc h q =
      sense_steady w s t s' t' p (ker.Item i) n xs (map as_expr ks) sc (with_literal p i (map as_expr ks) (children ks h q)) tt
  node_steady p ker.Range n xs ks sc h q = sense_steady w s t s' t' p ker.Range n xs (map as_expr ks) sc (first_two ks h q) tt
  node_steady p o n xs ks sc h q = sense_steady w s t s' t' p o n xs (map as_expr ks) sc (children ks h q) tt

  kept : (k : Ker) → Kept k
  kept = by_nodes Kept (λ x h q sc.
      subst (λ (k : Meaning). Steady w s t s' t' (k sc)) (sym (ker-roll w x))
      (node_steady x.place x.op (length (names_of x.binds)) x.binds x.args sc h (sym (mentions-roll m x) ∙ q)))

  -- the value and the form
  pub same_value_at : (k : Ker) → mentions m k ≡ false → (sc : Scope) → ker_val w k sc s t ≡ ker_val w k sc s' t'
  same_value_at k h sc = (kept k h sc).0

  pub same_form_at : (k : Ker) → mentions m k ≡ false → (sc : Scope) → ker_form w k sc s t ≡ ker_form w k sc s' t'
  same_form_at k h sc = (kept k h sc).1
