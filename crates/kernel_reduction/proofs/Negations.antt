-- Rows of an operator by another one and negations, of CASE by nested IFs, and of annotations.
use Rattle.std.proofs.Common.{◌≡◌, ℕ, Bool, true, false, not, List, [], ◌∷◌, map, refl, sym, ◌∙◌, ap, ap₂, Option, Some, None, option_map, option_and_then, pos}
use Rattle.tla_values.specs.Order.{Layer}
use Rattle.tla_values.specs.Sets.{set_of}
use Rattle.tla_values.proofs.OrderLemmas.{value_cmp_out}
use Rattle.tla_values.specs.declared.value.Value.{Value, out-Value}
use Rattle.tla_values.specs.declared.value.Value.TheVariants as value
use Rattle.tla_values.specs.declared.value.Value.TheOpen as layer
use Rattle.tla_meaning.specs.declared.expr.Expr.{Expr}
use Rattle.tla_meaning.specs.declared.op.Op.{Op}
use Rattle.tla_meaning.specs.declared.op.Op.TheVariants as op
use Rattle.tla_meaning.specs.declared.place.Place.{Place}
use Rattle.tla_meaning.specs.declared.job.State.{State}
use Rattle.tla_meaning.specs.declared.outcome.Outcome.{Outcome}
use Rattle.tla_meaning.specs.declared.outcome.Outcome.TheVariants.{Val, Wrong, Big}
use Rattle.tla_meaning.specs.Outcomes.{strict}
use Rattle.tla_meaning.specs.Shapes.{choices, the_set, set_items}
use Rattle.tla_meaning.specs.Forms.{belongs}
use Rattle.tla_meaning.specs.Operators.{table, yes_no, on_set, on_all_sets}
use Rattle.tla_meaning.specs.Numbers.{Width, number}
use Rattle.tla_meaning.specs.Scopes.{Scope, bind}
use Rattle.tla_meaning.specs.Actions.{meaning}
use Rattle.tla_meaning.specs.Meaning.{outcomes, outer, conjoined, implied, in_form, case_chosen, choose, bound_table}
use Rattle.tla_meaning.proofs.Views.{false≢true}
use Rattle.snowcat_rows.specs.declared.types.Ty.{Ty}
use Rattle.kernel_trees.specs.declared.kernel.Ker.{Ker}
use Rattle.kernel_trees.specs.declared.kernel.KerOp.TheVariants as ker
use Rattle.kernel_trees.specs.Trees.{ker_val, names_of}
use Rattle.kernel_trees.proofs.Operators.{val_const, val_not, val_and, val_equal, val_less, val_minus, val_set, val_member, val_if, val_nocase, constant_value}
use Rattle.kernel_trees.proofs.Binders.{val_every}
use Rattle.kernel_reduction.specs.Reduction.{Numbering, Matched, is_wide}
use Rattle.kernel_reduction.specs.Rows.{tree, node, negation, number as number_at, truth as truth_at, implication, nested_ifs}
use Rattle.kernel_reduction.specs.Builds.{has_arm}
use Rattle.kernel_reduction.proofs.Widths.{fits_all, number_there}
use Rattle.kernel_reduction.proofs.Outcomes.{strict_by, negated, negated_strict, implies_row, unequal_at, not_in_row, strict_swapped, greater_at, at_most_at, not_less_at, negative_at, all_true}
use Rattle.kernel_reduction.proofs.Frame.{KeepsNode, KeepsEach, ker_vals, ker_forms, operands_kept, operand_forms_kept, plain_row}

-- constants that have no fault
module _ (w : Width) (s t : State) (p : Place) (c : Ty) (b : Scope) where
  pub val_truth : (x : Bool) → ker_val w (truth_at p c x) b s t ≡ yes_no x
  val_truth x = val_const w s t p c (value.Bool x) [] [] b ∙ ap (constant_value w p) (value.outs-Bool x)

  pub val_number : (n : ℕ) → ker_val w (number_at p c n) b s t ≡ number w p (pos n)
  val_number n = val_const w s t p c (value.Int (pos n)) [] [] b ∙ ap (constant_value w p) (value.outs-Int (pos n))

module _ (w : Width) (ρ : Numbering) (p : Place) (es : List Expr) (xs : List (List ℕ)) (c : Ty) where
  -- the job's operator of the kernel's operands
  of_operands : (ks : List Ker) → KeepsEach w ρ es ks → (a b : Scope) (s t : State) → Matched ρ a b s t → (o : Op) →
      strict (outcomes (outer p [] (map (meaning w) es) a) s t) (table w p o)
      ≡ strict (ker_vals w ρ s t ks b) (table w p o)
  of_operands ks h a b s t r o =
      ap (λ (os : List Outcome). strict os (table w p o)) (operands_kept w ρ s t p es ks a b h r)

  not_at : (s t : State) (k : Ker) (b : Scope) → ker_val w (negation p c k) b s t ≡ negated w p (ker_val w k b s t)
  not_at s t k b = val_not w s t p c (k ∷ []) [] b

  pub keeps_assign : (ks : List Ker) → KeepsEach w ρ es ks → KeepsNode w ρ p op.Assign es xs (node p c ker.Equal ks)
  keeps_assign ks h = plain_row w ρ p p op.Assign es xs c ker.Equal ks [] (λ a s t. refl) (λ s t. refl)
      (λ a b s t r. of_operands ks h a b s t r op.Assign ∙ sym (val_equal w s t p c ks [] b))

  pub keeps_unequal : (ks : List Ker) → KeepsEach w ρ es ks →
      KeepsNode w ρ p op.Ne es xs (negation p c (node p c ker.Equal ks))
  keeps_unequal ks h =
      plain_row w ρ p p op.Ne es xs c ker.Not (node p c ker.Equal ks ∷ []) [] (λ a s t. refl) (λ s t. refl)
      (λ a b s t r.
      of_operands ks h a b s t r op.Ne
      ∙ sym (not_at s t (node p c ker.Equal ks) b
      ∙ ap (negated w p) (val_equal w s t p c ks [] b)
      ∙ negated_strict w p (ker_vals w ρ s t ks b) (table w p op.Eq) (table w p op.Ne) (unequal_at w p)))

  pub keeps_no_member : (ks : List Ker) → KeepsEach w ρ es ks →
      KeepsNode w ρ p op.NotIn es xs (negation p c (node p c ker.Member ks))
  keeps_no_member ks h =
      plain_row w ρ p p op.NotIn es xs c ker.Not (node p c ker.Member ks ∷ []) [] (λ a s t. refl) (λ s t. refl)
      (λ a b s t r.
      ap₂ (in_form p (λ v f. yes_no (not (belongs f v)))) (operands_kept w ρ s t p es ks a b h r)
      (operand_forms_kept w ρ s t p es ks a b h r)
      ∙ sym (not_at s t (node p c ker.Member ks) b
      ∙ ap (negated w p) (val_member w s t p c ks [] b)
      ∙ not_in_row w p (ker_vals w ρ s t ks b) (ker_forms w ρ s t ks b)))

  pub keeps_greater : (k l : Ker) → KeepsEach w ρ es (k ∷ l ∷ []) →
      KeepsNode w ρ p op.Gt es xs (node p c ker.Less (l ∷ k ∷ []))
  keeps_greater k l h = plain_row w ρ p p op.Gt es xs c ker.Less (l ∷ k ∷ []) [] (λ a s t. refl) (λ s t. refl)
      (λ a b s t r.
      of_operands (k ∷ l ∷ []) h a b s t r op.Gt
      ∙ sym (val_less w s t p c (l ∷ k ∷ []) [] b
      ∙ strict_swapped (ker_val w k b s t) (ker_val w l b s t) (table w p op.Lt)
      ∙ strict_by (ker_vals w ρ s t (k ∷ l ∷ []) b) _ (table w p op.Gt) (greater_at w p)))

  pub keeps_at_most : (k l : Ker) → KeepsEach w ρ es (k ∷ l ∷ []) →
      KeepsNode w ρ p op.Le es xs (negation p c (node p c ker.Less (l ∷ k ∷ [])))
  keeps_at_most k l h =
      plain_row w ρ p p op.Le es xs c ker.Not (node p c ker.Less (l ∷ k ∷ []) ∷ []) [] (λ a s t. refl) (λ s t. refl)
      (λ a b s t r.
      of_operands (k ∷ l ∷ []) h a b s t r op.Le
      ∙ sym (not_at s t (node p c ker.Less (l ∷ k ∷ [])) b
      ∙ ap (negated w p)
      (val_less w s t p c (l ∷ k ∷ []) [] b ∙ strict_swapped (ker_val w k b s t) (ker_val w l b s t) (table w p op.Lt))
      ∙ negated_strict w p (ker_vals w ρ s t (k ∷ l ∷ []) b) _ (table w p op.Le) (at_most_at w p)))

  pub keeps_at_least : (ks : List Ker) → KeepsEach w ρ es ks →
      KeepsNode w ρ p op.Ge es xs (negation p c (node p c ker.Less ks))
  keeps_at_least ks h =
      plain_row w ρ p p op.Ge es xs c ker.Not (node p c ker.Less ks ∷ []) [] (λ a s t. refl) (λ s t. refl)
      (λ a b s t r.
      of_operands ks h a b s t r op.Ge
      ∙ sym (not_at s t (node p c ker.Less ks) b
      ∙ ap (negated w p) (val_less w s t p c ks [] b)
      ∙ negated_strict w p (ker_vals w ρ s t ks b) (table w p op.Lt) (table w p op.Ge) (not_less_at w p)))

  pub keeps_implies : (k l : Ker) → KeepsEach w ρ es (k ∷ l ∷ []) →
      KeepsNode w ρ p op.Implies es xs (implication p c k l)
  keeps_implies k l h =
      plain_row w ρ p p op.Implies es xs c ker.Not (node p c ker.And (k ∷ negation p c l ∷ []) ∷ []) [] (λ a s t. refl)
      (λ s t. refl)
      (λ a b s t r.
      ap (implied p) (operands_kept w ρ s t p es (k ∷ l ∷ []) a b h r)
      ∙ implies_row w p (ker_val w k b s t) (ker_val w l b s t)
      ∙ sym (not_at s t (node p c ker.And (k ∷ negation p c l ∷ [])) b
      ∙ ap (negated w p) (val_and w s t p c (k ∷ negation p c l ∷ []) [] b
      ∙ ap (λ o. conjoined p (ker_val w k b s t ∷ o ∷ [])) (not_at s t l b))))

  pub keeps_negative : is_wide w ≡ true → (ks : List Ker) → KeepsEach w ρ es ks →
      KeepsNode w ρ p op.Neg es xs (node p c ker.Minus (number_at p c 0 ∷ ks))
  keeps_negative i ks h =
      plain_row w ρ p p op.Neg es xs c ker.Minus (number_at p c 0 ∷ ks) [] (λ a s t. refl) (λ s t. refl)
      (λ a b s t r.
      of_operands ks h a b s t r op.Neg
      ∙ sym (val_minus w s t p c (number_at p c 0 ∷ ks) [] b
      ∙ ap (λ o. strict (o ∷ ker_vals w ρ s t ks b) (table w p op.Sub))
      (val_number w s t p c b 0 ∙ number_there w p (pos 0) (fits_all w i (pos 0) refl))
      ∙ strict_by (ker_vals w ρ s t ks b) (λ vs. table w p op.Sub (value.Int (pos 0) ∷ vs)) (table w p op.Neg)
      (negative_at w p)))

  abbrev over : State → State → Scope → ℕ → Option (List Value) → Outcome
  over s t b n o = elim (option_and_then (λ xs. option_map (λ xss. xs ∷ xss) (Some [])) o) [
    | None ↦ Wrong p
    | Some xss ↦ strict (map (λ vs. ker_val w (truth_at p c true) (bind (names_of (n ∷ [])) vs b) s t) (choices xss))
        (bound_table p op.Forall (choices xss))
  ]

  finite_at : (s t : State) (b : Scope) (o : Outcome) (n : ℕ) →
      strict (o ∷ [])
      (on_all_sets p
      (λ xss. strict (map (λ vs. ker_val w (truth_at p c true) (bind (names_of (n ∷ [])) vs b) s t) (choices xss))
      (bound_table p op.Forall (choices xss))))
      ≡ strict (o ∷ []) (table w p op.IsFinite)
  finite_at s t b (Wrong q) n = refl
  finite_at s t b (Big q) n = refl
  finite_at s t b (Val v) n = by (out-Value v)
    where
      by : (l : Layer Value) → over s t b n (set_items l) ≡ on_set p (λ xs. yes_no true) (l ∷ [])
      by (layer.Set xs) =
          (λ i. strict (map (λ vs. val_truth w s t p c (bind (names_of (n ∷ [])) vs b) true i) (choices (xs ∷ [])))
          (bound_table p op.Forall (choices (xs ∷ []))))
          ∙ all_true p (choices (xs ∷ []))
      by (layer.Bool x) = refl
      by (layer.Int x) = refl
      by (layer.Text x) = refl
      by (layer.Fun x) = refl

  pub keeps_finite : (k : Ker) (n : ℕ) → KeepsEach w ρ es (k ∷ []) →
      KeepsNode w ρ p op.IsFinite es xs (tree p c ker.Every (k ∷ truth_at p c true ∷ []) (n ∷ []))
  keeps_finite k n h =
      plain_row w ρ p p op.IsFinite es xs c ker.Every (k ∷ truth_at p c true ∷ []) (n ∷ []) (λ a s t. refl)
      (λ s t. refl)
      (λ a b s t r.
      of_operands (k ∷ []) h a b s t r op.IsFinite
      ∙ sym (val_every w s t p c (k ∷ []) (truth_at p c true) (n ∷ []) b refl ∙ finite_at s t b (ker_val w k b s t) n))

  pub keeps_truth_values : (d : Ty) →
      KeepsNode w ρ p op.BooleanSet [] xs (node p c ker.SetOf (truth_at p d false ∷ truth_at p d true ∷ []))
  keeps_truth_values d =
      plain_row w ρ p p op.BooleanSet [] xs c ker.SetOf (truth_at p d false ∷ truth_at p d true ∷ []) []
      (λ a s t. refl) (λ s t. refl)
      (λ a b s t r.
      sym (val_set w s t p c (truth_at p d false ∷ truth_at p d true ∷ []) [] b
      ∙ (λ i. strict (val_truth w s t p d b false i ∷ val_truth w s t p d b true i ∷ []) (λ vs. Val (the_set vs)))
      ∙ ap (λ l. Val (value.Set l)) both_truths))
    where
      both_truths : set_of (value.Bool false ∷ value.Bool true ∷ []) ≡ value.Bool false ∷ value.Bool true ∷ []
      both_truths = simp (value_cmp_out, value.outs-Bool)

  -- ---- CASE, and annotations

  nested_val : (s t : State) (b : Scope) (ks : List Ker) →
      ker_val w (nested_ifs p c ks) b s t ≡ case_chosen p (ker_vals w ρ s t ks b)
  nested_val s t b [] = val_nocase w s t p c [] [] b
  nested_val s t b (k ∷ []) = refl
  nested_val s t b (g ∷ k ∷ ks) =
      val_if w s t p c g k (nested_ifs p c ks) [] b
      ∙ ap (choose p (ker_val w g b s t) (ker_val w k b s t)) (nested_val s t b ks)

  pub keeps_cases : (other : Bool) (ks : List Ker) → has_arm ks ≡ true → KeepsEach w ρ es ks →
      KeepsNode w ρ p (op.Case other) es xs (nested_ifs p c ks)
  keeps_cases other [] q h = absurd (false≢true q)
  keeps_cases other (k ∷ []) q h = absurd (false≢true q)
  keeps_cases other (g ∷ k ∷ ks) q h =
      plain_row w ρ p p (op.Case other) es xs c ker.If (g ∷ k ∷ nested_ifs p c ks ∷ []) [] (λ a s t. refl) (λ s t. refl)
      (λ a b s t r.
      ap (case_chosen p) (operands_kept w ρ s t p es (g ∷ k ∷ ks) a b h r) ∙ sym (nested_val s t b (g ∷ k ∷ ks)))

pub keeps_noted : (w : Width) (ρ : Numbering) (p : Place) (es : List Expr) (xs : List (List ℕ)) (x : List ℕ)
    (k : Ker) → KeepsEach w ρ es (k ∷ []) →
    KeepsNode w ρ p (op.Noted x) es xs k
keeps_noted w ρ p [] xs x k h = absurd h
keeps_noted w ρ p (e ∷ []) xs x k h = record { value = h.0.value; form = h.0.form }
keeps_noted w ρ p (e ∷ f ∷ es) xs x k h = absurd h.1
