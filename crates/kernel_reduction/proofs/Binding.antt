-- Rows of literals, names, ranges, binders and folds: the operator stays.
use Rattle.std.proofs.Common.{◌≡◌, ℕ, zero, suc, Bool, true, false, List, [], ◌∷◌, ◌++◌, map, take, drop, replicate, length, refl, sym, ◌∙◌, ap, Some, option_and_then, ℤ}
use Rattle.tla_values.specs.declared.value.Value.TheVariants as value
use Rattle.tla_meaning.specs.declared.expr.Expr.{Expr}
use Rattle.tla_meaning.specs.declared.op.Op.{Op}
use Rattle.tla_meaning.specs.declared.op.Op.TheVariants as op
use Rattle.tla_meaning.specs.declared.place.Place.{Place}
use Rattle.tla_meaning.specs.declared.job.State.{State}
use Rattle.tla_meaning.specs.declared.outcome.Outcome.{Outcome}
use Rattle.tla_meaning.specs.Outcomes.{strict}
use Rattle.tla_meaning.specs.Numbers.{Width}
use Rattle.tla_meaning.specs.Operators.{table}
use Rattle.tla_meaning.specs.Scopes.{Scope, bind, find_last, value_found}
use Rattle.tla_meaning.specs.Meaning.{outcomes, outer, inner, child, plain, fold_over}
use Rattle.tla_meaning.specs.Actions.{meaning}
use Rattle.tla_meaning.proofs.Views.{and_right, false≢true}
use Rattle.snowcat_rows.specs.declared.types.Ty.{Ty}
use Rattle.kernel_trees.specs.declared.kernel.Ker.{Ker}
use Rattle.kernel_trees.specs.declared.kernel.KerOp.{KerOp}
use Rattle.kernel_trees.specs.declared.kernel.KerOp.TheVariants as ker
use Rattle.kernel_trees.specs.Trees.{op_of, ker_val, names_of, number_name}
use Rattle.kernel_trees.proofs.Nodes.{all_meanings, sense_at, outcomes_here}
use Rattle.kernel_trees.proofs.Operators.{is_form, by_node, val_const, val_name, val_bound, val_range, constant_value}
use Rattle.kernel_reduction.specs.Reduction.{Numbering, Matched, numbered, all_fresh, fresh}
use Rattle.kernel_reduction.specs.Rows.{tree, node, bound}
use Rattle.kernel_reduction.specs.Builds.{is_binder}
use Rattle.tla_meaning.proofs.NormalNodes.{NormalOutcomes}
use Rattle.kernel_shapes.specs.Laws.{IsNormal}
use Rattle.kernel_reduction.proofs.Normals.{of_sets, over_same, fold_same, outcome_normal, bind_normal, matched_bind}
use Rattle.kernel_reduction.proofs.Frame.{node_means, KeepsNode, KeepsEach, operands_kept, plain_row}

-- ---- literals and names

module _ (w : Width) (ρ : Numbering) (p : Place) (es : List Expr) (xs : List (List ℕ)) (c : Ty) where
  pub keeps_boolean : (x : Bool) → KeepsNode w ρ p (op.Bool x) es xs (node p c (ker.Const (value.Bool x)) [])
  keeps_boolean x =
      plain_row w ρ p p (op.Bool x) es xs c (ker.Const (value.Bool x)) [] [] (λ a s t. refl) (λ s t. refl)
      (λ a b s t r. sym (val_const w s t p c (value.Bool x) [] [] b ∙ ap (constant_value w p) (value.outs-Bool x)))

  pub keeps_integer : (x : ℤ) → KeepsNode w ρ p (op.Int x) es xs (node p c (ker.Const (value.Int x)) [])
  keeps_integer x =
      plain_row w ρ p p (op.Int x) es xs c (ker.Const (value.Int x)) [] [] (λ a s t. refl) (λ s t. refl)
      (λ a b s t r. sym (val_const w s t p c (value.Int x) [] [] b ∙ ap (constant_value w p) (value.outs-Int x)))

  pub keeps_text : (x : List ℕ) → KeepsNode w ρ p (op.Str x) es xs (node p c (ker.Const (value.Text x)) [])
  keeps_text x =
      plain_row w ρ p p (op.Str x) es xs c (ker.Const (value.Text x)) [] [] (λ a s t. refl) (λ s t. refl)
      (λ a b s t r. sym (val_const w s t p c (value.Text x) [] [] b ∙ ap (constant_value w p) (value.outs-Text x)))

  pub keeps_declared : (i : ℕ) (primed : Bool) →
      KeepsNode w ρ p (op.Name i primed) es xs (node p c (ker.Name i primed) [])
  keeps_declared i primed =
      plain_row w ρ p p (op.Name i primed) es xs c (ker.Name i primed) [] [] (λ a s t. refl) (λ s t. refl)
      (λ a b s t r. sym (val_name w s t p c i primed [] [] b))

  pub keeps_bound : (x : List ℕ) (n : ℕ) → find_last x ρ ≡ Some n → KeepsNode w ρ p (op.Bound x) es xs (bound p c n)
  keeps_bound x n q =
      plain_row w ρ p p (op.Bound x) es xs c (ker.Bound n) [] [] (λ a s t. refl) (λ s t. refl)
      (λ a b s t r.
      ap (value_found p) (r.tied x ∙ ap (option_and_then (λ k. find_last (number_name k) b.bound)) q)
      ∙ sym (val_bound w s t p c n [] [] b))

  pub keeps_range : (k l : Ker) → KeepsEach w ρ es (k ∷ l ∷ []) →
      KeepsNode w ρ p op.Range es xs (node p c ker.Range (k ∷ l ∷ []))
  keeps_range k l h =
      plain_row w ρ p p op.Range es xs c ker.Range (k ∷ l ∷ []) [] (λ a s t. refl) (λ s t. refl)
      (λ a b s t r.
      ap (λ (os : List Outcome). strict os (table w p op.Range)) (operands_kept w ρ s t p es (k ∷ l ∷ []) a b h r)
      ∙ sym (val_range w s t p c k l [] [] b))

-- ---- binders

module _ (w : Width) (ρ ρ' : Numbering) (p : Place) (a b : Scope) (s t : State) (r : Matched ρ a b s t) where
  sets_kept : (n : ℕ) (es : List Expr) (ks bs : List Ker) → KeepsEach w ρ (take n es) ks →
      KeepsEach w ρ' (drop n es) bs →
      outcomes (take n (outer p (replicate n false ++ true ∷ []) (map (meaning w) es) a)) s t
      ≡ outcomes (take n (outer p (replicate n false ++ true ∷ []) (all_meanings w (ks ++ bs)) b)) s t
  sets_kept zero es ks bs h g = refl
  sets_kept (suc n) [] [] [] h g = refl
  sets_kept (suc n) [] [] (x ∷ bs) h g = absurd g
  sets_kept (suc n) [] (k ∷ ks) bs h g = absurd h
  sets_kept (suc n) (e ∷ es) [] bs h g = absurd h
  sets_kept (suc n) (e ∷ es) (k ∷ ks) bs h g = λ i. h.0.value a b s t r i ∷ sets_kept n es ks bs h.1 g i

module _ (w : Width) (ρ ρ' : Numbering) (p : Place) (a b : Scope) (s t : State) (r : Matched ρ' a b s t) where
  body_kept : (n : ℕ) (es : List Expr) (ks bs : List Ker) → KeepsEach w ρ (take n es) ks →
      KeepsEach w ρ' (drop n es) bs →
      (child p n (inner p (replicate n false ++ true ∷ []) (map (meaning w) es) a)).value s t
      ≡ (child p n (inner p (replicate n false ++ true ∷ []) (all_meanings w (ks ++ bs)) b)).value s t
  body_kept zero es (k ∷ ks) bs h g = absurd h
  body_kept zero [] [] [] h g = refl
  body_kept zero [] [] (x ∷ bs) h g = absurd g
  body_kept zero (e ∷ es) [] [] h g = absurd g
  body_kept zero (e ∷ es) [] (x ∷ bs) h g = g.0.value a b s t r
  body_kept (suc n) [] [] [] h g = refl
  body_kept (suc n) [] [] (x ∷ bs) h g = absurd g
  body_kept (suc n) [] (k ∷ ks) bs h g = absurd h
  body_kept (suc n) (e ∷ es) [] bs h g = absurd h
  body_kept (suc n) (e ∷ es) (k ∷ ks) bs h g = body_kept n es ks bs h.1 g

lengths_same : (xs : List (List ℕ)) (ns : List ℕ) (ρ : Numbering) → all_fresh xs ns ρ ≡ true →
    length (names_of ns) ≡ length xs
lengths_same [] [] ρ h = refl
lengths_same [] (n ∷ ns) ρ h = absurd (false≢true h)
lengths_same (x ∷ xs) [] ρ h = absurd (false≢true h)
lengths_same (x ∷ xs) (n ∷ ns) ρ h =
    ap suc (lengths_same xs ns (ρ ++ (x, n) ∷ []) (and_right (fresh n ρ) (all_fresh xs ns (ρ ++ (x, n) ∷ [])) h))

sets_normal : (w : Width) (p : Place) (a : Scope) (s t : State) → IsNormal a s t → (n : ℕ) (es : List Expr) →
    NormalOutcomes (outcomes (take n (outer p (replicate n false ++ true ∷ []) (map (meaning w) es) a)) s t)
sets_normal w p a s t h zero es = tt
sets_normal w p a s t h (suc n) [] = tt
sets_normal w p a s t h (suc n) (e ∷ es) = (outcome_normal w e a s t h, sets_normal w p a s t h n es)

module _ (w : Width) (ρ : Numbering) (p : Place) (es : List Expr) (xs : List (List ℕ)) (ks bs : List Ker) (ns : List ℕ)
    (f : all_fresh xs ns ρ ≡ true) where
  module _ (h : KeepsEach w ρ (take (length xs) es) ks)
      (g : KeepsEach w (numbered xs ns ρ) (drop (length xs) es) bs) where
    binder_value : (a b : Scope) (s t : State) → Matched ρ a b s t → (o : KerOp) → is_binder o ≡ true →
        (node_means w p (op_of o) es xs a).value s t ≡ (sense_at w p o (length xs) ns (ks ++ bs) b).value s t
    binder_value a b s t r o q = by o q
      where
        of_both : (o : Op) →
            of_sets p o (outcomes
            (take (length xs) (outer p (replicate (length xs) false ++ true ∷ []) (map (meaning w) es) a)) s t)
            (λ vs. (child p (length xs)
            (inner p (replicate (length xs) false ++ true ∷ []) (map (meaning w) es) (bind xs vs a))).value s t)
            ≡ of_sets p o
            (outcomes (take (length xs)
            (outer p (replicate (length xs) false ++ true ∷ []) (all_meanings w (ks ++ bs)) b)) s t)
            (λ vs. (child p (length xs)
            (inner p (replicate (length xs) false ++ true ∷ []) (all_meanings w (ks ++ bs))
            (bind (names_of ns) vs b))).value s t)
        of_both o =
            over_same p o
            (outcomes (take (length xs)
            (outer p (replicate (length xs) false ++ true ∷ []) (map (meaning w) es) a)) s t) _ _
            (sets_normal w p a s t r.normal (length xs) es)
            (λ vs m. body_kept w ρ (numbered xs ns ρ) p (bind xs vs a) (bind (names_of ns) vs b) s t
            (matched_bind xs ns vs ρ a b s t f m r) (length xs) es ks bs h g)
            ∙ ap (λ os. of_sets p o os
            (λ vs. (child p (length xs)
            (inner p (replicate (length xs) false ++ true ∷ []) (all_meanings w (ks ++ bs))
            (bind (names_of ns) vs b))).value s t))
            (sets_kept w ρ (numbered xs ns ρ) p a b s t r (length xs) es ks bs h g)

        by : (o : KerOp) → is_binder o ≡ true →
            (node_means w p (op_of o) es xs a).value s t ≡ (sense_at w p o (length xs) ns (ks ++ bs) b).value s t
        by ker.Filter q = of_both op.Filter
        by ker.MapOver q = of_both op.MapTo
        by ker.FunOf q = of_both op.Lambda
        by ker.Some q = of_both op.Exists
        by ker.Every q = of_both op.Forall
        by o q = absurd (false≢true q)

    binder_plain : (o : KerOp) → is_binder o ≡ true → (a : Scope) (s t : State) →
        (node_means w p (op_of o) es xs a).form s t ≡ plain ((node_means w p (op_of o) es xs a).value s t)
    binder_plain ker.Filter q a s t = refl
    binder_plain ker.MapOver q a s t = refl
    binder_plain ker.FunOf q a s t = refl
    binder_plain ker.Some q a s t = refl
    binder_plain ker.Every q a s t = refl
    binder_plain o q a s t = absurd (false≢true q)

    pub keeps_binder : (c : Ty) (o : KerOp) → is_binder o ≡ true →
        KeepsNode w ρ p (op_of o) es xs (tree p c o (ks ++ bs) ns)
    keeps_binder c o q =
        plain_row w ρ p p (op_of o) es xs c o (ks ++ bs) ns (binder_plain o q) (λ s t. no_form o q s t)
        (λ a b s t r.
        binder_value a b s t r o q
        ∙ ap (λ n. (sense_at w p o n ns (ks ++ bs) b).value s t) (sym (lengths_same xs ns ρ f))
        ∙ sym (by_node w s t p c o (ks ++ bs) ns b))
      where
        no_form : (o : KerOp) → is_binder o ≡ true → (s t : State) → is_form w s t o ≡ false
        no_form ker.Filter q s t = refl
        no_form ker.MapOver q s t = refl
        no_form ker.FunOf q s t = refl
        no_form ker.Some q s t = refl
        no_form ker.Every q s t = refl
        no_form o q s t = absurd (false≢true q)

  -- ---- folds

  pub keeps_fold : (c : Ty) → KeepsEach w (numbered xs ns ρ) (take 1 es) bs → KeepsEach w ρ (drop 1 es) ks →
      KeepsNode w ρ p op.Fold es xs (tree p c ker.FoldLeft (bs ++ ks) ns)
  keeps_fold c g h =
      plain_row w ρ p p op.Fold es xs c ker.FoldLeft (bs ++ ks) ns (λ a s t. refl) (λ s t. refl)
      (λ a b s t r. by a b s t r es bs g h ∙ sym (by_node w s t p c ker.FoldLeft (bs ++ ks) ns b))
    where
      by : (a b : Scope) (s t : State) → Matched ρ a b s t → (es : List Expr) (bs : List Ker) →
          KeepsEach w (numbered xs ns ρ) (take 1 es) bs → KeepsEach w ρ (drop 1 es) ks →
          (node_means w p op.Fold es xs a).value s t
          ≡ (sense_at w p ker.FoldLeft (length (names_of ns)) ns (bs ++ ks) b).value s t
      by a b s t r [] [] g h = none ks h
        where
          none : (ks : List Ker) → KeepsEach w ρ [] ks →
              (node_means w p op.Fold [] xs a).value s t
              ≡ (sense_at w p ker.FoldLeft (length (names_of ns)) ns ks b).value s t
          none [] h = refl
          none (k ∷ ks) h = absurd h
      by a b s t r [] (x ∷ bs) g h = absurd g
      by a b s t r (e ∷ es) [] g h = absurd g
      by a b s t r (e ∷ es) (x ∷ y ∷ bs) g h = absurd g.1
      by a b s t r (e ∷ es) (x ∷ []) g h =
          fold_same p (outcomes (outer p [] (map (meaning w) es) a) s t) _ _ (all_normal es)
          (λ u v m n. g.0.value (bind xs (u ∷ v ∷ []) a) (bind (names_of ns) (u ∷ v ∷ []) b) s t
          (matched_bind xs ns (u ∷ v ∷ []) ρ a b s t f (m, (n, tt)) r))
          (λ u v m n. outcome_normal w e (bind xs (u ∷ v ∷ []) a) s t
          (bind_normal xs (u ∷ v ∷ []) a s t (m, (n, tt)) r.normal))
          ∙ ap (λ (os : List Outcome).
          strict os (fold_over p (λ u v. ker_val w x (bind (names_of ns) (u ∷ v ∷ []) b) s t)))
          (operands_kept w ρ s t p es ks a b h r ∙ sym (outcomes_here w p ks b s t))
        where
          all_normal : (es : List Expr) → NormalOutcomes (outcomes (outer p [] (map (meaning w) es) a) s t)
          all_normal [] = tt
          all_normal (e ∷ es) = (outcome_normal w e a s t r.normal, all_normal es)
