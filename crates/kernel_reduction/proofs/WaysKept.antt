-- What is built in an action position has the paths of its expression, step by step.
use Rattle.std.proofs.Common.{◌≡◌, ℕ, zero, suc, Bool, true, false, ◌||◌, List, [], ◌∷◌, ◌++◌, map, zip, take, length, true≢false, refl, sym, ◌∙◌, ap, ap₂, subst, Option, Some, None, option_map, if◌then◌else◌}
use Rattle.std.specs.Prelude.{drop}
use Rattle.std.specs.List.{slice_get}
use Rattle.tla_meaning.specs.declared.actions.Assignable.{Assignable}
use Rattle.tla_meaning.specs.declared.expr.Expr.{Expr, out-Expr, roll-out-Expr}
use Rattle.tla_meaning.specs.declared.op.Op.{Op}
use Rattle.tla_meaning.specs.declared.op.Op.TheVariants as op
use Rattle.tla_meaning.specs.declared.place.Place.{Place}
use Rattle.tla_meaning.specs.Actions.{counts}
use Rattle.tla_meaning.proofs.Views.{and_right, false≢true}
use Rattle.snowcat_rows.specs.declared.types.Ty.{Ty}
use Rattle.kernel_trees.specs.declared.kernel.Ker.{Ker, out-Ker, out-roll-Ker}
use Rattle.kernel_trees.specs.declared.kernel.Ker.TheOpen.{Ker-F}
use Rattle.kernel_trees.specs.declared.kernel.KerOp.TheVariants as ker
use Rattle.kernel_trees.specs.Paths.{Marks, Step, Holds, Branch, Choice, Parted, any_mentions, choice_ways, ends_at, if_ways, mentions, place_of, sets, ways}
use Rattle.kernel_trees.specs.TypeKinds.{Kind}
use Rattle.kernel_trees.specs.Ways.{Way, all_of, alone, any_of, branch}
use Rattle.kernel_trees.proofs.LawOfPaths.{ways-roll}
use Rattle.kernel_trees.proofs.Trees.{mentions-roll}
use Rattle.kernel_reduction.specs.JobPaths.{JobParted, JobStep, Operand, Guarded, Chosen, Unmatched, TypedTree, any_holds, ends_there, job_case_ways, names_inside, set_count, job_choice_ways, job_if_ways, job_sets, job_ways, job_ways_of, root_place, typed_trees}
use Rattle.kernel_reduction.specs.Reduction.{Numbering, all_fresh, any_mentioned, fresh, numbered}
use Rattle.kernel_reduction.specs.Builds.{Builds, BuildsEach, BuildsArms, BuildsNode, at_node, none_left, one_more, no_arms, other_arm, one_arm, noted, as_value, conjunction, disjunction, choice, branches, split_cases, passes_on}
use Rattle.kernel_reduction.specs.Rows.{case_branches, guard_of, negation, node, tree, twice_negated}
use Rattle.kernel_reduction.specs.inner.SameWays.{Pairs, SameWay, SameWays}
use Rattle.kernel_reduction.specs.inner.Steps.{SameStep, guard_is_false, guard_is_true, is_note, same_choice, same_end, same_guard, same_operand, trees}
use Rattle.kernel_reduction.proofs.Basics.{append_none}
use Rattle.kernel_reduction.proofs.CaseWays.{arm_branch, guard_steps, last_branch, more_guards}
use Rattle.kernel_reduction.proofs.JobTrees.{inside_trees, with_job_ways}
use Rattle.kernel_reduction.proofs.Mentioned.{mentioned_is}
use Rattle.kernel_reduction.proofs.Operands.{any_beside, beside, mentions_node, operand_ways, value_root}
use Rattle.kernel_reduction.proofs.Roots.{tree_root}
use Rattle.kernel_reduction.proofs.StepsTold.{step_told}
use Rattle.kernel_reduction.proofs.NodeWays.{Kept, and_ways, any_trees, arm_ways, branch_ways, branches_ways, first_part, fresh_length, job_operand, job_ways_is, more_fronts, no_note, none_ways, not_cons, not_nil, or_ways, other_ways, same_head, same_tail, some_ways, split_ways, trees_drop, trees_take, trees_typed, zip_job_sets, zip_sets}
use Rattle.kernel_reduction.proofs.WayPairs.{pairs_append, same_all, same_alone, same_any, same_behind, same_branch}

module _ (m : Assignable) where
  alike : (x : JobStep) (z : Step) → SameStep x z → ends_there x ≡ ends_at z
  alike x z h = (step_told (counts m) h).ends

  abbrev N : Marks
  N = counts m

  abbrev Alike : TypedTree → Ker → Type 0
  Alike t k = Kept m SameStep alike t k

  -- the sets of a choice
  pub domains : (ρ : Numbering) (xs : List (List ℕ)) (ns : List ℕ) (ts : List TypedTree) (es : List Expr) (ks bs : List Ker) {i : Option Assignable} {σ : Numbering} →
      trees ts ≡ es → length ns ≡ length xs → BuildsEach None ρ (take (length xs) es) ks → BuildsEach i σ (drop (length xs) es) bs →
      BuildsEach None ρ (trees (job_sets (zip xs (take (length xs) ts)))) (sets (zip ns (take (length ns) (ks ++ bs))))
  domains ρ xs ns ts es ks bs e n g r =
      subst (λ l. BuildsEach None ρ l (sets (zip ns (take (length ns) (ks ++ bs)))))
      (sym (ap trees (zip_job_sets xs ts) ∙ trees_take (length xs) ts ∙ ap (take (length xs)) e))
      (subst (BuildsEach None ρ (take (length xs) es))
      (sym (zip_sets ns (ks ++ bs) ∙ ap (λ n. take n (ks ++ bs)) n ∙ first_part (length xs) es g r)) g)

  keep : {ρ : Numbering} {e : Expr} {k : Ker} → Builds (Some m) ρ e k → ((around : List (List ℕ)) (ks : List Kind) → SameWays SameStep (job_ways N (record { tree = e; kinds = ks; around = around })) (ways N k)) →
      (t : TypedTree) → t.tree ≡ e → Alike t k
  keep {k = k} h f t q = (
    ap root_place q ∙ sym (tree_root h).place,
    subst (λ e. SameWays SameStep (job_ways N (record { tree = e; kinds = t.kinds; around = t.around })) (ways N k)) (sym q) (f t.around t.kinds),
  )

  mutual
    pub tree_ways : {ρ : Numbering} {e : Expr} {k : Ker} → Builds (Some m) ρ e k → (around : List (List ℕ)) (ks : List Kind) →
        SameWays SameStep (job_ways N (record { tree = e; kinds = ks; around = around })) (ways N k)
    tree_ways (at_node i ρ e k h) around ks =
        let t : TypedTree = record { tree = e; kinds = ks; around = around } in
        let o : Op = (out-Expr e).op in
        let xs : List (List ℕ) = (out-Expr e).binds in
        subst (λ l. SameWays SameStep l (ways N k)) (sym (job_ways_is N e around ks))
        (node_ways h t (λ q. same_operand (Some m) ρ t k q (at_node (Some m) ρ e k h))
        (inside_trees o xs around (out-Expr e).args (drop 1 ks))
        (trees_typed (set_count o xs) around (names_inside o xs around) (out-Expr e).args (drop 1 ks)))

    each_kept : {ρ : Numbering} {es : List Expr} {ks : List Ker} → BuildsEach (Some m) ρ es ks → (ts : List TypedTree) → trees ts ≡ es → Pairs Alike ts ks
    each_kept (none_left i ρ) [] q = tt
    each_kept (none_left i ρ) (t ∷ ts) q = absurd (not_cons q)
    each_kept (one_more i ρ e k es ks h g) [] q = absurd (not_nil q)
    each_kept (one_more i ρ e k es ks h g) (t ∷ ts) q = (keep h (λ around ks. tree_ways h around ks) t (same_head q), each_kept g ts (same_tail q))

    first_ways : {ρ : Numbering} {es : List Expr} {k : Ker} → BuildsEach (Some m) ρ es (k ∷ []) → (self : TypedTree) (x : List ℕ) (p : Place) (xs : List (List ℕ)) (ts : List TypedTree) → trees ts ≡ es →
        SameWays SameStep (job_ways_of N (op.Noted x) self p xs (with_job_ways N ts)) (ways N k)
    first_ways (one_more i ρ e k es ks h g) self x p xs [] q = absurd (not_nil q)
    first_ways (one_more i ρ e k es ks h g) self x p xs (t ∷ ts) q = (keep h (λ around ks. tree_ways h around ks) t (same_head q)).1

    arms_ways : {ρ : Numbering} {es : List Expr} {ys : List (Ker × Ker)} {o : Option Ker} → BuildsArms m ρ es ys o → (p : Place) (a : Ty) (front : List JobStep) (gs : List Ker) →
        Pairs SameStep front (guard_steps N p a gs) → (ts : List TypedTree) → trees ts ≡ es →
        SameWays SameStep (job_case_ways p front (with_job_ways N ts)) (branch_ways m SameStep alike (case_branches p a gs ys o))
    arms_ways (no_arms n ρ) p a front gs f [] q = none_ways m SameStep alike p a front gs (same_end p a) f
    arms_ways (no_arms n ρ) p a front gs f (t ∷ ts) q = absurd (not_cons q)
    arms_ways (other_arm n ρ e k h) p a front gs f [] q = absurd (not_nil q)
    arms_ways (other_arm n ρ e k h) p a front gs f (t ∷ []) q = other_ways m SameStep alike p a front gs t k f (keep h (λ around ks. tree_ways h around ks) t (same_head q))
    arms_ways (other_arm n ρ e k h) p a front gs f (t ∷ u ∷ ts) q = absurd (not_cons (same_tail q))
    arms_ways (one_arm n ρ c e g k es xs o b h r) p a front gs f [] q = absurd (not_nil q)
    arms_ways (one_arm n ρ c e g k es xs o b h r) p a front gs f (t ∷ []) q = absurd (not_nil (same_tail q))
    arms_ways (one_arm n ρ c e g k es xs o b h r) p a front gs f (t ∷ u ∷ ts) q =
        pairs_append (SameWay SameStep) _ _ _ _
        (arm_ways m SameStep alike p a front gs t u g k f (guard_is_true ρ p t a g (subst (λ z. Builds None ρ z g) (sym (same_head q)) b)) (keep h (λ around ks. tree_ways h around ks) u (same_head (same_tail q))))
        (arms_ways r p a (front ++ Guarded p t false ∷ []) (gs ++ g ∷ []) (more_fronts m SameStep alike p a front gs t g f (guard_is_false ρ p t a g (subst (λ z. Builds None ρ z g) (sym (same_head q)) b))) ts (same_tail (same_tail q)))

    node_ways : {ρ : Numbering} {p : Place} {o : Op} {es : List Expr} {xs : List (List ℕ)} {k : Ker} → BuildsNode (Some m) ρ p o es xs k → (self : TypedTree) →
        (is_note o ≡ false → SameStep (Operand self) (Holds k)) → (ts : List TypedTree) → trees ts ≡ es →
        SameWays SameStep (job_ways_of N o self p xs (with_job_ways N ts)) (ways N k)
    node_ways (noted i ρ p x es xs k g) self st ts e = first_ways g self x p xs ts e
    node_ways (as_value n ρ p o es xs k z h) self st ts e =
        subst (λ l. SameWays SameStep l (ways N k)) (sym (job_operand m o self p xs ts (ap (passes_on m o) e ∙ z)))
        (subst (SameWays SameStep (alone (Operand self))) (sym (operand_ways (value_root m h z))) (same_alone SameStep _ _ (st (no_note m o es z))))
    node_ways (conjunction n ρ p es xs a ks g) self st ts e = and_ways m SameStep alike p a ts ks (each_kept g ts e)
    node_ways (disjunction n ρ p es xs a ks g) self st ts e =
        or_ways m SameStep alike self p a ts ks (λ z. st refl) (each_kept g ts e)
        (any_trees m ts ∙ ap (any_mentioned m) e ∙ sym (mentions_node m refl (disjunction m ρ p es xs a ks g)))
    node_ways (choice n ρ p es xs a ks bs ns f g r) self st ts e =
        some_ways m SameStep alike self p a xs ns ts es ks bs ρ (numbered xs ns ρ) (fresh_length xs ns ρ f) (λ z. st refl)
        (same_choice ρ p _ _ (domains ρ xs ns ts es ks bs e (fresh_length xs ns ρ f) g r)) g r
        (each_kept r (drop (length xs) ts) (trees_drop (length xs) ts ∙ ap (drop (length xs)) e))
    node_ways (branches n ρ p c es xs a b g k l q h r) self st [] e = absurd (not_nil e)
    node_ways (branches n ρ p c es xs a b g k l q h r) self st (t ∷ ts) e =
        branches_ways m SameStep alike p a b g k l self t ts (ap (any_mentioned m) e ∙ q)
        (mentions_node m refl (branches m ρ p c es xs a b g k l q h r) ∙ sym (ap (any_mentioned m) e))
        (λ v. same_guard ρ p t v b g (subst (λ z. Builds None ρ z g) (sym (same_head e)) h)) (each_kept r ts (same_tail e))
    node_ways (split_cases n ρ p other es xs a ys o q g) self st ts e =
        split_ways m SameStep alike p a es (case_branches p a [] ys o) self other ts e q (mentions_node m refl (split_cases m ρ p other es xs a ys o q g)) (arms_ways g p a [] [] tt ts e)
