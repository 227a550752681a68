-- Rows in which two operands are evaluated first, as a pair that is named, and then read: equivalences, functions of
-- one pair, items at a literal that may be Big; and items and fields without a LET.
use Rattle.std.proofs.Common.{◌≡◌, ℕ, ◌≤◌, arith, Bool, true, false, not, List, [], ◌∷◌, map, pos, refl, sym, ◌∙◌, ap, ap₂, Option, Some, None, ℤ, if◌then◌else◌}
use Rattle.std.specs.Prelude.{nat_eq, nat_le, option_map, option_and_then}
use Rattle.std.proofs.lemmas.Bool.{lt-ltb, leb-true}
use Rattle.tla_values.specs.Order.{Layer, same_value}
use Rattle.tla_values.specs.Sets.{set_of}
use Rattle.tla_values.specs.Integers.{fits_width}
use Rattle.tla_values.proofs.OrderLemmas.{value_cmp_out}
use Rattle.tla_values.specs.declared.value.Value.{Value, out-Value}
use Rattle.tla_values.specs.declared.value.Value.TheVariants as value
use Rattle.tla_values.specs.declared.value.Value.TheOpen as layer
use Rattle.tla_meaning.specs.declared.expr.Expr.{Expr}
use Rattle.tla_meaning.specs.declared.op.Op.{Op}
use Rattle.tla_meaning.specs.declared.op.Op.TheVariants as op
use Rattle.tla_meaning.specs.declared.place.Place.{Place}
use Rattle.tla_meaning.specs.declared.job.State.{State}
use Rattle.tla_meaning.specs.declared.outcome.Outcome.{Outcome}
use Rattle.tla_meaning.specs.declared.outcome.Outcome.TheVariants.{Val, Wrong, Big}
use Rattle.tla_meaning.specs.Outcomes.{strict, with_value}
use Rattle.tla_meaning.specs.Shapes.{truth, sequence, choices, the_set, set_items}
use Rattle.tla_meaning.specs.Operators.{table, yes_no, on_truths, on_all_sets, applied, or_wrong}
use Rattle.tla_meaning.specs.Numbers.{Width, number, in_width}
use Rattle.tla_meaning.specs.Scopes.{Scope, bind, find_last, or_else, value_found}
use Rattle.tla_meaning.specs.Meaning.{outcomes, outer, bound_table}
use Rattle.tla_meaning.specs.Actions.{meaning}
use Rattle.tla_meaning.proofs.Joins.{least_same}
use Rattle.tla_meaning.proofs.Laws.{find-append}
use Rattle.snowcat_rows.specs.declared.types.Ty.{Ty}
use Rattle.kernel_trees.specs.declared.kernel.Ker.{Ker, out-Ker, roll-out-Ker}
use Rattle.kernel_trees.specs.declared.kernel.KerOp.TheVariants as ker
use Rattle.kernel_trees.specs.Trees.{ker_val, names_of, number_name}
use Rattle.kernel_trees.proofs.Operators.{val_const, val_bound, val_item, val_tuple, val_equal, val_not, val_set, val_field, constant_value}
use Rattle.kernel_trees.proofs.Binders.{val_function}
use Rattle.kernel_reduction.specs.Reduction.{Numbering, Matched, is_wide}
use Rattle.kernel_reduction.specs.Rows.{Let, let_in, tree, node, bound, pair, item, place_of, type_of, op_at, named_first, named_second, equivalence, single, item_by_let}
use Rattle.kernel_reduction.specs.Builds.{is_let}
use Rattle.kernel_reduction.proofs.Widths.{fits_all, number_there}
use Rattle.kernel_reduction.proofs.Tying.{names_apart}
use Rattle.kernel_reduction.proofs.Outcomes.{strict_same, negated, not_layer, negated_is, field_row, tuple_then, one_value, other_values, cons≢none, none≢cons}
use Rattle.kernel_reduction.proofs.Lets.{let_scope, val_let, read_named, both_of, first_of, second_of}
use Rattle.kernel_reduction.proofs.Frame.{KeepsNode, KeepsEach, operands_kept, plain_row}

-- ---- literals

module _ (w : Width) (s t : State) (b : Scope) where
  pub literal_val : (m : Ker) (v : Value) → op_at m ≡ ker.Const v →
      ker_val w m b s t ≡ constant_value w (place_of m) (out-Value v)
  literal_val m v q =
      ap (λ k. ker_val w k b s t) (sym (roll-out-Ker m))
      ∙ ap (λ o. ker_val w (tree (place_of m) (type_of m) o (out-Ker m).args (out-Ker m).binds) b s t) q
      ∙ val_const w s t (place_of m) (type_of m) v (out-Ker m).args (out-Ker m).binds b

  pub literal_number : (m : Ker) (i : ℤ) → op_at m ≡ ker.Const (value.Int i) →
      ker_val w m b s t ≡ number w (place_of m) i
  literal_number m i q = literal_val m (value.Int i) q ∙ ap (constant_value w (place_of m)) (value.outs-Int i)

  pub literal_text : (m : Ker) (x : List ℕ) → op_at m ≡ ker.Const (value.Text x) →
      ker_val w m b s t ≡ Val (value.Text x)
  literal_text m x q = literal_val m (value.Text x) q ∙ ap (constant_value w (place_of m)) (value.outs-Text x)

pub big≢value : {p : Place} {v : Value} → Big p ≡ Val v → ⊥
big≢value e = cc

-- a number that is no fault at one place is none at another
pub number_again : (w : Width) (p q : Place) (i : ℤ) (v : Value) → number w q i ≡ Val v → number w p i ≡ Val v
number_again w p q i v h = by (in_width w i) h
  where
    by : (c : Bool) → (if c then Val (value.Int i) else Big q) ≡ Val v →
        (if c then Val (value.Int i) else Big p) ≡ Val v
    by true h = h
    by false h = absurd (big≢value h)

pub few_fit : (n : ℕ) → nat_le n 7 ≡ true → fits_width 4 (pos n) ≡ true
few_fit n h = let k : n ≤ 7 = leb-true n 7 h in lt-ltb n 8 (omega arith)

-- ---- reading a pair that is named

module _ (w : Width) (wide : is_wide w ≡ true) (s t : State) (l : Let) (p : Place) (ty : Ty) (c : Scope)
    (u v : Value) where
  module _ (r : find_last (number_name l.named) c.bound ≡ Some (both_of u v)) where
    pair_read : (q : Place) → ker_val w (bound q ty l.named) c s t ≡ Val (both_of u v)
    pair_read q = val_bound w s t q ty l.named [] [] c ∙ ap (value_found q) r

    item_read : (q : Place) (a : Ty) (n : ℕ) → fits_width 4 (pos n) ≡ true →
        ker_val w (item q a n (bound q ty l.named)) c s t ≡ applied q (out-Value (both_of u v)) (value.Int (pos n))
    item_read q a n f =
        val_item w s t q a n (bound q ty l.named) [] c
        ∙ (λ i. strict (pair_read q i ∷ number_there w q (pos n) (fits_all w wide (pos n) f) i ∷ [])
        (table w q op.Apply))

    pub first_read : (k : Ker) → ker_val w (named_first l ty k) c s t ≡ Val u
    first_read k =
        item_read (place_of k) (type_of k) 1 refl
        ∙ ap (λ (x : Layer Value). applied (place_of k) x (value.Int (pos 1))) (value.outs-Fun _)
        ∙ ap (or_wrong (place_of k)) (first_of u v)

    pub second_read : (k : Ker) → ker_val w (named_second l ty k) c s t ≡ Val v
    second_read k =
        item_read (place_of k) (type_of k) 2 refl
        ∙ ap (λ (x : Layer Value). applied (place_of k) x (value.Int (pos 2))) (value.outs-Fun _)
        ∙ ap (or_wrong (place_of k)) (second_of u v)

-- what follows a pair that is named has both values
pub let_pair : (w : Width) (s t : State) (p : Place) (l : Let) (ty : Ty) (k m e : Ker) (b : Scope)
    (f : List Value → Outcome) → is_let l ≡ true →
    ((u v : Value) → ker_val w k b s t ≡ Val u → ker_val w m b s t ≡ Val v →
    ker_val w e (let_scope l (both_of u v) b) s t ≡ f (u ∷ v ∷ [])) →
    ker_val w (let_in p l (pair p ty k m) e) b s t ≡ strict (ker_val w k b s t ∷ ker_val w m b s t ∷ []) f
let_pair w s t p l ty k m e b f d h =
    val_let w s t p l (pair p ty k m) e b d
    ∙ ap (λ (o : Outcome). with_value o (λ v. ker_val w e (let_scope l v b) s t))
    (val_tuple w s t p ty (k ∷ m ∷ []) [] b)
    ∙ tuple_then w p (ker_val w k b s t ∷ ker_val w m b s t ∷ []) (λ v. ker_val w e (let_scope l v b) s t)
    ∙ strict_same (ker_val w k b s t ∷ ker_val w m b s t ∷ []) _ f by
  where
    by : (vs : List Value) → ker_val w k b s t ∷ ker_val w m b s t ∷ [] ≡ map Val vs →
        ker_val w e (let_scope l (sequence vs) b) s t ≡ f vs
    by [] q = absurd (cons≢none q)
    by (u ∷ []) q = absurd (cons≢none (other_values q))
    by (u ∷ v ∷ []) q = h u v (one_value q) (one_value (other_values q))
    by (u ∷ v ∷ x ∷ vs) q = absurd (none≢cons (other_values (other_values q)))

-- ---- negated truth values are equal where the truth values are

same_not : (a b : Bool) → same_value (truth (not a)) (truth (not b)) ≡ same_value (truth a) (truth b)
same_not true true = simp (value_cmp_out, value.outs-Bool)
same_not true false = simp (value_cmp_out, value.outs-Bool)
same_not false true = simp (value_cmp_out, value.outs-Bool)
same_not false false = simp (value_cmp_out, value.outs-Bool)

abbrev compared : Width → Place → Outcome → Outcome → Outcome
compared w p a b = strict (a ∷ b ∷ []) (table w p op.Eq)

twice_wrong : (w : Width) (p : Place) → compared w p (Wrong p) (Wrong p) ≡ Wrong p
twice_wrong w p = ap Wrong (least_same p)

both_layers : (w : Width) (p : Place) (l k : Layer Value) →
    compared w p (not_layer p l) (not_layer p k)
    ≡ on_truths p (λ a b. yes_no (same_value (truth a) (truth b))) (l ∷ k ∷ [])
both_layers w p (layer.Bool true) (layer.Bool true) = ap yes_no (same_not true true)
both_layers w p (layer.Bool true) (layer.Bool false) = ap yes_no (same_not true false)
both_layers w p (layer.Bool true) k = refl
both_layers w p (layer.Bool false) (layer.Bool true) = ap yes_no (same_not false true)
both_layers w p (layer.Bool false) (layer.Bool false) = ap yes_no (same_not false false)
both_layers w p (layer.Bool false) k = refl
both_layers w p l (layer.Bool true) = refl
both_layers w p l (layer.Bool false) = refl
both_layers w p l k = twice_wrong w p

-- on values
iff_values : (w : Width) (p : Place) (a b : Value) →
    compared w p (negated w p (Val a)) (negated w p (Val b)) ≡ table w p op.Iff (a ∷ b ∷ [])
iff_values w p a b =
    ap₂ (compared w p) (negated_is w p a (out-Value a) refl) (negated_is w p b (out-Value b) refl)
    ∙ both_layers w p (out-Value a) (out-Value b)

-- ---- the rows

module _ (w : Width) (wide : is_wide w ≡ true) (ρ : Numbering) (p : Place) (es : List Expr) (xs : List (List ℕ))
    (k m : Ker) (h : KeepsEach w ρ es (k ∷ m ∷ [])) where
  abbrev kept : Op → (a b : Scope) (s t : State) → Type 0
  kept o a b s t =
      strict (outcomes (outer p [] (map (meaning w) es) a) s t) (table w p o)
      ≡ strict (ker_val w k b s t ∷ ker_val w m b s t ∷ []) (table w p o)

  of_both : (o : Op) (a b : Scope) (s t : State) → Matched ρ a b s t → kept o a b s t
  of_both o a b s t r =
      ap (λ (os : List Outcome). strict os (table w p o)) (operands_kept w ρ s t p es (k ∷ m ∷ []) a b h r)

  pub keeps_equivalence : (l : Let) (ty : Ty) → is_let l ≡ true → KeepsNode w ρ p op.Iff es xs (equivalence p l ty k m)
  keeps_equivalence l ty d = plain_row w ρ p p op.Iff es xs l.type ker.First _ [] (λ a s t. refl) (λ s t. refl)
      (λ a b s t r.
      of_both op.Iff a b s t r
      ∙ sym (let_pair w s t p l ty k m _ b (table w p op.Iff) d (λ u v e f.
      let c : Scope = let_scope l (both_of u v) b in
      let q : find_last (number_name l.named) c.bound ≡ Some (both_of u v) = read_named l (both_of u v) b in
      val_equal w s t p l.type _ [] c
      ∙ ap₂ (compared w p)
      (val_not w s t p l.type _ [] c ∙ ap (negated w p) (first_read w wide s t l p ty c u v q k))
      (val_not w s t p l.type _ [] c ∙ ap (negated w p) (second_read w wide s t l p ty c u v q m))
      ∙ iff_values w p u v)))

  abbrev by_set : State → State → Let → Ty → ℕ → Scope → Option (List Value) → Outcome
  by_set s t l ty z c o = elim (option_and_then (λ xs. option_map (λ xss. xs ∷ xss) (Some [])) o) as (λ _. Outcome) [
    | None ↦ Wrong p
    | Some xss ↦ strict (map (λ vs. ker_val w (named_second l ty m) (bind (names_of (z ∷ [])) vs c) s t) (choices xss))
        (bound_table p op.Lambda (choices xss))
  ]

  pub keeps_single : (l : Let) (ty d : Ty) (z : ℕ) → is_let l ≡ true → nat_eq l.named z ≡ false →
      KeepsNode w ρ p op.Single es xs (single p l ty d z k m)
  keeps_single l ty d z i g = plain_row w ρ p p op.Single es xs l.type ker.First _ [] (λ a s t. refl) (λ s t. refl)
      (λ a b s t r.
      of_both op.Single a b s t r
      ∙ sym (let_pair w s t p l ty k m _ b (table w p op.Single) i (λ u v e f.
      let c : Scope = let_scope l (both_of u v) b in
      let q : find_last (number_name l.named) c.bound ≡ Some (both_of u v) = read_named l (both_of u v) b in
      val_function w s t p l.type (node p d ker.SetOf (named_first l ty k ∷ []) ∷ []) (named_second l ty m)
      (z ∷ []) c refl
      ∙ ap (λ (o : Outcome). strict (o ∷ []) (over s t l ty z c))
      (val_set w s t p d (named_first l ty k ∷ []) [] c
      ∙ ap (λ (o : Outcome). strict (o ∷ []) (λ vs. Val (the_set vs))) (first_read w wide s t l p ty c u v q k))
      ∙ at_one s t l ty z c u v
      (second_read w wide s t l p ty (bind (number_name z ∷ []) (u ∷ []) c) u v (still l z c u (both_of u v) g q) m))))
    where
      over : State → State → Let → Ty → ℕ → Scope → List Value → Outcome
      over s t l ty z c =
          on_all_sets p
          (λ xss. strict
          (map (λ vs. ker_val w (named_second l ty m) (bind (names_of (z ∷ [])) vs c) s t) (choices xss))
          (bound_table p op.Lambda (choices xss)))

      still : (l : Let) (z : ℕ) (c : Scope) (u y : Value) → nat_eq l.named z ≡ false →
          find_last (number_name l.named) c.bound ≡ Some y →
          find_last (number_name l.named) (bind (number_name z ∷ []) (u ∷ []) c).bound ≡ Some y
      still l z c u y g q =
          find-append (number_name l.named) c.bound ((number_name z, u) ∷ [])
          ∙ ap (λ x. or_else (or_else None (if x then Some u else None)) (find_last (number_name l.named) c.bound))
          (names_apart l.named z g)
          ∙ q

      at_one : (s t : State) (l : Let) (ty : Ty) (z : ℕ) (c : Scope) (u v : Value) →
          ker_val w (named_second l ty m) (bind (number_name z ∷ []) (u ∷ []) c) s t ≡ Val v →
          strict (Val (the_set (u ∷ [])) ∷ []) (over s t l ty z c) ≡ Val (value.Fun ((u, v) ∷ []))
      at_one s t l ty z c u v e =
          ap (λ (x : Layer Value). by_set s t l ty z c (set_items x)) (value.outs-Set (set_of (u ∷ [])))
          ∙ (λ i. strict (e i ∷ []) (bound_table p op.Lambda ((u ∷ []) ∷ [])))

  pub keeps_low_item : (c : Ty) (n : ℕ) → op_at m ≡ ker.Const (value.Int (pos n)) → nat_le n 7 ≡ true →
      KeepsNode w ρ p op.Apply es xs (node p c (ker.Item n) (k ∷ []))
  keeps_low_item c n q f = plain_row w ρ p p op.Apply es xs c (ker.Item n) (k ∷ []) [] (λ a s t. refl) (λ s t. refl)
      (λ a b s t r.
      of_both op.Apply a b s t r
      ∙ ap (λ (o : Outcome). strict (ker_val w k b s t ∷ o ∷ []) (table w p op.Apply))
      (literal_number w s t b m (pos n) q
      ∙ number_there w (place_of m) (pos n) (fits_all w wide (pos n) (few_fit n f))
      ∙ sym (number_there w p (pos n) (fits_all w wide (pos n) (few_fit n f))))
      ∙ sym (val_item w s t p c n k [] b))

  pub keeps_high_item : (l : Let) (ty : Ty) (n : ℕ) → is_let l ≡ true → op_at m ≡ ker.Const (value.Int (pos n)) →
      KeepsNode w ρ p op.Apply es xs (item_by_let p l ty n k m)
  keeps_high_item l ty n d q = plain_row w ρ p p op.Apply es xs l.type ker.First _ [] (λ a s t. refl) (λ s t. refl)
      (λ a b s t r.
      of_both op.Apply a b s t r
      ∙ sym (let_pair w s t p l ty k m _ b (table w p op.Apply) d (λ u v e f.
      let c : Scope = let_scope l (both_of u v) b in
      val_item w s t p l.type n (named_first l ty k) [] c
      ∙ (λ i. strict (first_read w wide s t l p ty c u v (read_named l (both_of u v) b) k i
      ∷ number_again w p (place_of m) (pos n) v (sym (literal_number w s t b m (pos n) q) ∙ f) i ∷ [])
      (table w p op.Apply)))))

  pub keeps_field : (c : Ty) (x : List ℕ) → op_at m ≡ ker.Const (value.Text x) →
      KeepsNode w ρ p op.Apply es xs (node p c (ker.FieldOf x) (k ∷ []))
  keeps_field c x q = plain_row w ρ p p op.Apply es xs c (ker.FieldOf x) (k ∷ []) [] (λ a s t. refl) (λ s t. refl)
      (λ a b s t r.
      of_both op.Apply a b s t r
      ∙ ap (λ (o : Outcome). strict (ker_val w k b s t ∷ o ∷ []) (table w p op.Apply)) (literal_text w s t b m x q)
      ∙ sym (val_field w s t p c x (k ∷ []) [] b ∙ field_row w p x (ker_val w k b s t)))
