-- The outcome of a binder, of an update and of a fold from the outcomes of their children.
use Rattle.std.proofs.Common.{◌≡◌, ℕ, suc, true, false, List, [], ◌∷◌, ◌++◌, map, take, replicate, length, refl, sym, ◌∙◌, ap, Option, Some, None}
use Rattle.std.specs.List.{slice_get}
use Rattle.tla_values.specs.Order.{Layer}
use Rattle.tla_values.specs.Sets.{apply, override_at}
use Rattle.tla_values.specs.declared.value.Value.{Value, out-Value}
use Rattle.tla_meaning.specs.declared.place.Place.{Place}
use Rattle.tla_meaning.specs.declared.job.State.{State}
use Rattle.tla_meaning.specs.declared.outcome.Outcome.{Outcome}
use Rattle.tla_meaning.specs.declared.outcome.Outcome.TheVariants.{Val, Wrong, Big}
use Rattle.tla_meaning.specs.Outcomes.{strict, values, with_value}
use Rattle.tla_meaning.specs.Shapes.{choices}
use Rattle.tla_meaning.specs.Operators.{on_all_sets}
use Rattle.tla_meaning.specs.Numbers.{Width}
use Rattle.tla_meaning.specs.Scopes.{Denotation, Scope, bind}
use Rattle.tla_meaning.specs.Meaning.{outcomes, child, outer, inner, fold_over, bound_table, Reached, At, Outside, NoFunction, reached_at, step_into, go_on, at_path, put_at, set_path, updated, first_updated}
use Rattle.snowcat_rows.specs.declared.types.Ty.{Ty}
use Rattle.kernel_trees.specs.declared.kernel.Ker.{Ker}
use Rattle.kernel_trees.specs.Trees.{names_of, number_name, ker_val}
use Rattle.kernel_trees.proofs.Operators.{tree, by_node, vals}
use Rattle.kernel_trees.proofs.Nodes.{all_meanings, sets_here, body_here, body_sense}
use Rattle.tla_values.specs.declared.value.Value.TheVariants as value
use Rattle.tla_values.specs.declared.value.Value.TheOpen as layer
use Rattle.tla_meaning.specs.declared.op.Op.{Op}
use Rattle.tla_meaning.specs.declared.op.Op.TheVariants as op
use Rattle.kernel_trees.specs.declared.kernel.KerOp.TheVariants as ker

length_map : (xs : List ℕ) → length (names_of xs) ≡ length xs
length_map [] = refl
length_map (x ∷ xs) = ap suc (length_map xs)

front : (ks : List Ker) (k : Ker) → take (length ks) (ks ++ k ∷ []) ≡ ks
front [] k = refl
front (x ∷ ks) k = ap (λ l. x ∷ l) (front ks k)

behind_front : (ks : List Ker) (k : Ker) → slice_get (ks ++ k ∷ []) (length ks) ≡ Some k
behind_front [] k = refl
behind_front (x ∷ ks) k = behind_front ks k

module _ (w : Width) (s t : State) where
  -- a binder, by the operator of the language for which it stands
  abbrev pub at_members : Place → Op → List Ker → Ker → List ℕ → Scope → Outcome
  at_members p o ks body xs sc =
      strict (vals w s t ks sc) (on_all_sets p (λ xss.
      strict (map (λ vs. ker_val w body (bind (names_of xs) vs sc) s t) (choices xss)) (bound_table p o (choices xss))))

  abbrev of_body : Place → Op → List Denotation → (List Value → Denotation) → Outcome
  of_body p o here under =
      strict (outcomes here s t) (on_all_sets p (λ xss. strict (map (λ vs. (under vs).value s t) (choices xss)) (bound_table p o (choices xss))))

  -- where the first n children are the sets, and the next one is the body
  abbrev by_number : Place → Op → List Ker → List ℕ → Scope → ℕ → Outcome
  by_number p o ks xs sc n =
      of_body p o (take n (outer p (replicate n false ++ true ∷ []) (all_meanings w ks) sc))
      (λ vs. child p n (inner p (replicate n false ++ true ∷ []) (all_meanings w ks) (bind (names_of xs) vs sc)))

  at_binder : (p : Place) (o : Op) (ks : List Ker) (body : Ker) (xs : List ℕ) (sc : Scope) → length ks ≡ length xs →
      by_number p o (ks ++ body ∷ []) xs sc (length (names_of xs)) ≡ at_members p o ks body xs sc
  at_binder p o ks body xs sc h =
      ap (by_number p o (ks ++ body ∷ []) xs sc) (length_map xs ∙ sym h)
      ∙ (λ i. strict ((sets_here w p (length ks) (ks ++ body ∷ []) sc s t ∙ ap (λ l. vals w s t l sc) (front ks body)) i) (on_all_sets p (λ xss.
      strict (map (λ vs. ((body_here w p (length ks) (ks ++ body ∷ []) (bind (names_of xs) vs sc)
      ∙ ap (λ o. body_sense w p o (bind (names_of xs) vs sc)) (behind_front ks body)) i).value s t) (choices xss)) (bound_table p o (choices xss)))))

  pub val_some : (p : Place) (a : Ty) (ks : List Ker) (body : Ker) (xs : List ℕ) (sc : Scope) → length ks ≡ length xs →
      ker_val w (tree p a ker.Some (ks ++ body ∷ []) xs) sc s t ≡ at_members p op.Exists ks body xs sc
  val_some p a ks body xs sc h = by_node w s t p a ker.Some (ks ++ body ∷ []) xs sc ∙ at_binder p op.Exists ks body xs sc h

  pub val_every : (p : Place) (a : Ty) (ks : List Ker) (body : Ker) (xs : List ℕ) (sc : Scope) → length ks ≡ length xs →
      ker_val w (tree p a ker.Every (ks ++ body ∷ []) xs) sc s t ≡ at_members p op.Forall ks body xs sc
  val_every p a ks body xs sc h = by_node w s t p a ker.Every (ks ++ body ∷ []) xs sc ∙ at_binder p op.Forall ks body xs sc h

  pub val_filter : (p : Place) (a : Ty) (ks : List Ker) (body : Ker) (xs : List ℕ) (sc : Scope) → length ks ≡ length xs →
      ker_val w (tree p a ker.Filter (ks ++ body ∷ []) xs) sc s t ≡ at_members p op.Filter ks body xs sc
  val_filter p a ks body xs sc h = by_node w s t p a ker.Filter (ks ++ body ∷ []) xs sc ∙ at_binder p op.Filter ks body xs sc h

  pub val_map : (p : Place) (a : Ty) (ks : List Ker) (body : Ker) (xs : List ℕ) (sc : Scope) → length ks ≡ length xs →
      ker_val w (tree p a ker.MapOver (ks ++ body ∷ []) xs) sc s t ≡ at_members p op.MapTo ks body xs sc
  val_map p a ks body xs sc h = by_node w s t p a ker.MapOver (ks ++ body ∷ []) xs sc ∙ at_binder p op.MapTo ks body xs sc h

  pub val_function : (p : Place) (a : Ty) (ks : List Ker) (body : Ker) (xs : List ℕ) (sc : Scope) → length ks ≡ length xs →
      ker_val w (tree p a ker.FunOf (ks ++ body ∷ []) xs) sc s t ≡ at_members p op.Lambda ks body xs sc
  val_function p a ks body xs sc h = by_node w s t p a ker.FunOf (ks ++ body ∷ []) xs sc ∙ at_binder p op.Lambda ks body xs sc h

  -- an update, by the function and the index: outside the domain nothing changes, and the new value is not asked
  abbrev pub updated_one : Place → (Value → Outcome) → Value → Value → Layer Value → Outcome
  updated_one p new i f (layer.Fun ps) =
      elim (apply ps i) [ None ↦ Val f | Some old ↦ with_value (new old) (λ v. Val (value.Fun (override_at ps i v))) ]
  updated_one p new i f l = Wrong p

  abbrev pub updated_by : Place → (Value → Outcome) → List Value → Outcome
  updated_by p new (f ∷ i ∷ []) = updated_one p new i f (out-Value f)
  updated_by p new vs = Wrong p

  abbrev pub by_found : Place → (Value → Outcome) → (Value → Value) → Value → Reached → Outcome
  by_found p new change f r = elim r [
    | At old ↦ with_value (new old) (λ v. updated p [] (change v))
    | Outside ↦ updated p [] f
    | NoFunction ↦ Wrong p
  ]

  abbrev by_option : (Value → Outcome) → List (Value × Value) → Value → Value → Option Value → Outcome
  by_option new ps i f o = elim o [ None ↦ Val f | Some old ↦ with_value (new old) (λ v. Val (value.Fun (override_at ps i v))) ]

  abbrev put_by : List (Value × Value) → Value → Value → Value → Option Value → Value
  put_by ps i f v o = elim o [ None ↦ f | Some u ↦ value.Fun (override_at ps i v) ]

  one_found : (p : Place) (new : Value → Outcome) (ps : List (Value × Value)) (i f : Value) (o : Option Value) →
      by_found p new (λ v. put_by ps i f v o) f (go_on (reached_at o) (λ v. at_path v [])) ≡ by_option new ps i f o
  one_found p new ps i f None = refl
  one_found p new ps i f (Some v) = refl

  pub one_update : (p : Place) (new : Value → Outcome) (i f : Value) (l : Layer Value) →
      by_found p new (λ v. put_at l i (set_path [] v) f) f (go_on (step_into l i) (λ v. at_path v [])) ≡ updated_one p new i f l
  one_update p new i f (layer.Fun ps) = one_found p new ps i f (apply ps i)
  one_update p new i f (layer.Bool b) = refl
  one_update p new i f (layer.Int n) = refl
  one_update p new i f (layer.Text x) = refl
  one_update p new i f (layer.Set xs) = refl

  update_by : (p : Place) (new : Value → Outcome) (f i : Outcome) →
      strict (f ∷ i ∷ []) (first_updated p ((values (i ∷ []), new) ∷ [])) ≡ strict (f ∷ i ∷ []) (updated_by p new)
  update_by p new (Val f) (Val i) = one_update p new i f (out-Value f)
  update_by p new (Val f) (Wrong q) = refl
  update_by p new (Val f) (Big q) = refl
  update_by p new (Wrong q) (Val i) = refl
  update_by p new (Wrong q) (Wrong r) = refl
  update_by p new (Wrong q) (Big r) = refl
  update_by p new (Big q) (Val i) = refl
  update_by p new (Big q) (Wrong r) = refl
  update_by p new (Big q) (Big r) = refl

  pub val_update : (p : Place) (a : Ty) (f i e : Ker) (n : ℕ) (sc : Scope) →
      ker_val w (tree p a ker.Update (f ∷ i ∷ e ∷ []) (n ∷ [])) sc s t
      ≡ strict (ker_val w f sc s t ∷ ker_val w i sc s t ∷ []) (updated_by p (λ old. ker_val w e (bind (number_name n ∷ []) (old ∷ []) sc) s t))
  val_update p a f i e n sc =
      by_node w s t p a ker.Update (f ∷ i ∷ e ∷ []) (n ∷ []) sc
      ∙ update_by p (λ old. ker_val w e (bind (number_name n ∷ []) (old ∷ []) sc) s t) (ker_val w f sc s t) (ker_val w i sc s t)

  pub val_fold : (p : Place) (a : Ty) (body first seq : Ker) (m n : ℕ) (sc : Scope) →
      ker_val w (tree p a ker.FoldLeft (body ∷ first ∷ seq ∷ []) (m ∷ n ∷ [])) sc s t
      ≡ strict (ker_val w first sc s t ∷ ker_val w seq sc s t ∷ [])
      (fold_over p (λ x y. ker_val w body (bind (number_name m ∷ number_name n ∷ []) (x ∷ y ∷ []) sc) s t))
  val_fold p a body first seq m n sc = by_node w s t p a ker.FoldLeft (body ∷ first ∷ seq ∷ []) (m ∷ n ∷ []) sc
