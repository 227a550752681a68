-- The trees of a job's paths, and what of them is kept: operands, guards, the sets of choices, and what is assigned.
use Rattle.std.proofs.Common.{◌≡◌, ℕ, zero, suc, ◌+◌, ◌≤◌, Bool, true, false, ◌||◌, List, [], ◌∷◌, ◌++◌, map, zip, take, length, true≢false, Option, Some, None, option_map, refl, sym, ◌∙◌, ap, ap₂, subst, arith, if◌then◌else◌}
use Rattle.std.specs.Prelude.{drop}
use Rattle.tla_meaning.specs.declared.actions.Assignable.{Assignable}
use Rattle.tla_meaning.specs.declared.expr.Expr.{Expr, out-Expr}
use Rattle.tla_meaning.specs.declared.op.Op.{Op}
use Rattle.tla_meaning.specs.declared.op.Op.TheVariants as op
use Rattle.tla_meaning.specs.declared.place.Place.{Place}
use Rattle.tla_meaning.proofs.Views.{false≢true}
use Rattle.snowcat_rows.specs.declared.types.Ty.{Ty}
use Rattle.kernel_trees.specs.declared.kernel.Ker.{Ker, out-Ker}
use Rattle.kernel_trees.specs.declared.kernel.KerOp.{KerOp}
use Rattle.kernel_trees.specs.declared.kernel.KerOp.TheVariants as ker
use Rattle.kernel_trees.specs.declared.path.AssignedStep.{AssignedStep}
use Rattle.kernel_trees.specs.declared.path.AssignedStep.TheVariants as mark
use Rattle.kernel_trees.specs.Assignments.{assignment, assignment_of, target}
use Rattle.kernel_trees.specs.Paths.{Marks, is_end}
use Rattle.kernel_trees.specs.Trees.{op_of}
use Rattle.kernel_trees.specs.TypeKinds.{Kind}
use Rattle.kernel_shapes.specs.Sized.{Extent}
use Rattle.kernel_reduction.specs.JobPaths.{JobAssigned, Sets, SetsFrom, TypedTree, job_assignment, job_assignment_of, left_side, nodes, typed_trees}
use Rattle.kernel_reduction.specs.Laws.{IsSilent}
use Rattle.kernel_reduction.specs.Reduction.{Numbering, upward}
use Rattle.kernel_reduction.specs.Builds.{Builds, BuildsEach, BuildsNode, at_node, none_left, one_more, same, binder, noted, assign, as_value, is_same, is_binder}
use Rattle.kernel_reduction.specs.Fitting.{Fitting, FittingEach, FittingNode, behind}
use Rattle.kernel_reduction.specs.Rows.{guard_of, may_assign, negation, node, op_at, twice_negated}
use Rattle.kernel_reduction.specs.SizeLaws.{TiedShapes, is_apart}
use Rattle.kernel_reduction.specs.inner.Settings.{counted}
use Rattle.kernel_reduction.specs.inner.Steps.{is_note}
use Rattle.kernel_reduction.proofs.Apart.{AllApart}
use Rattle.kernel_reduction.proofs.Filled.{KeepsOf}
use Rattle.kernel_reduction.proofs.Gists.{Gist}
use Rattle.kernel_reduction.proofs.GistNodes.{job_gist, ker_gist, ker_node, whole}
use Rattle.kernel_reduction.proofs.Ranks.{either_none}
use Rattle.kernel_reduction.proofs.Roots.{Rooted, is_assigning, root_of, same_assigning}
use Rattle.kernel_reduction.proofs.SizeFrame.{IsSound, KeepsGist, children_sound, opened}
use Rattle.kernel_reduction.proofs.SizeLeaves.{atom, walked_rank}
use Rattle.kernel_reduction.proofs.SizeRows.{not_gist}
use Rattle.kernel_reduction.proofs.SizedSteps.{AssignsNone, KeptGuard, KeptSets, KeptTree, SameMark, both_among, both_equal, neither, when_walked}
use Rattle.kernel_reduction.proofs.SizesKept.{sizes}
use Rattle.kernel_reduction.proofs.StepsTold.{at_tree, binder_assigns, guard_plain, left_kept, negation_plain, no_assignment, no_job_assignment, no_kernel_assignment}

-- ---- parts of lists of trees

all_inside : (outer inner : List (List ℕ)) (es : List Expr) (ks : List Kind) → typed_trees 0 outer inner es ks ≡ typed_trees 0 inner inner es ks
all_inside outer inner [] ks = refl
all_inside outer inner (e ∷ es) ks =
    ap (λ (l : List TypedTree). record { tree = e; kinds = take (nodes e) ks; around = inner } ∷ l) (all_inside outer inner es (drop (nodes e) ks))

pub front_trees : (n : ℕ) (outer inner : List (List ℕ)) (es : List Expr) (ks : List Kind) → take n (typed_trees n outer inner es ks) ≡ typed_trees 0 outer outer (take n es) ks
front_trees zero outer inner es ks = refl
front_trees (suc n) outer inner [] ks = refl
front_trees (suc n) outer inner (e ∷ es) ks =
    ap (λ (l : List TypedTree). record { tree = e; kinds = take (nodes e) ks; around = outer } ∷ l) (front_trees n outer inner es (drop (nodes e) ks))

pub rest_trees : (n : ℕ) (outer inner : List (List ℕ)) (es : List Expr) (ks : List Kind) →
    drop n (typed_trees n outer inner es ks) ≡ typed_trees 0 inner inner (drop n es) (behind n es ks)
rest_trees zero outer inner es ks = all_inside outer inner es ks
rest_trees (suc n) outer inner [] ks = refl
rest_trees (suc n) outer inner (e ∷ es) ks = rest_trees n outer inner es (drop (nodes e) ks)

-- ---- guards

module _ (w : ℕ) where
  tree_guard : (t : TypedTree) (k : Ker) → KeptTree w t k → KeptGuard w t k
  tree_guard t k f g h r s = ap when_walked (f g h r s)

  negated_guard : (p : Place) (a : Ty) (t : TypedTree) (k : Ker) → KeptGuard w t k → KeptGuard w t (negation p a k)
  negated_guard p a t k f g h r s =
      f g h r (children_sound w p a ker.Not (k ∷ []) h refl s).0 ∙ sym (ap when_walked (not_gist w p a k h))

  pub once_kept : (p : Place) (a : Ty) (t : TypedTree) (k : Ker) → KeptTree w t k → KeptGuard w t (negation p a k)
  once_kept p a t k f = negated_guard p a t k (tree_guard t k f)

  pub twice_kept : (p : Place) (a : Ty) (t : TypedTree) (k : Ker) → KeptTree w t k → KeptGuard w t (twice_negated p a k)
  twice_kept p a t k f = negated_guard p a t (negation p a k) (once_kept p a t k f)

  pub guard_kept : (p : Place) (a : Ty) (t : TypedTree) (k : Ker) → KeptTree w t k → KeptGuard w t (guard_of p a k)
  guard_kept p a t k f = by (may_assign (op_at k) || is_end (op_at k))
    where
      by : (c : Bool) → KeptGuard w t (if c then twice_negated p a k else k)
      by true = twice_kept p a t k f
      by false = tree_guard t k f

  pub end_rank : (p : Place) (a : Ty) (g : Extent) → walked_rank w (node p a ker.NoCase []) g ≡ None
  end_rank p a g = ap when_walked (ker_node w (opened p a ker.NoCase []) g (whole (op.Case false) [] refl))

pub negation_assigns : (m : Marks) (p : Place) (a : Ty) (k : Ker) → AssignsNone m (negation p a k)
negation_assigns m p a k before = no_assignment m before (negation p a k) (negation_plain m p a k).0

pub guard_assigns : (m : Marks) (p : Place) (a : Ty) (k : Ker) → AssignsNone m (guard_of p a k)
guard_assigns m p a k before = no_assignment m before (guard_of p a k) (guard_plain m p a k).0

pub end_assigns : (m : Marks) (p : Place) (a : Ty) → AssignsNone m (node p a ker.NoCase [])
end_assigns m p a before = at_tree m before p a ker.NoCase [] []

-- ---- trees

module _ (w : ℕ) (wide : 2 ≤ w) where
  pub built_kept : (i : Option Assignable) (ρ : Numbering) (e : Expr) (k : Ker) (b : Builds i ρ e k) → IsSilent i e → (ks : List Kind) → Fitting b ks → is_apart e ≡ true →
      (around : List (List ℕ)) → ρ ≡ counted around → KeptTree w (record { tree = e; kinds = ks; around = around }) k
  built_kept i ρ e k b q ks f a around n = subst (λ (σ : Numbering). KeepsGist w σ (job_gist w e ks) k) n (sizes w wide i ρ e k b q ks f a)

  -- from the number n on, the first j of the choice left out
  pub sets_kept : (j n : ℕ) (xs : List (List ℕ)) (ρ : Numbering) (es : List Expr) (kers : List Ker) (b : BuildsEach None ρ es kers) (ks : List Kind) → FittingEach b ks → AllApart es →
      (around : List (List ℕ)) → ρ ≡ counted around → n ≡ j + length around →
      KeptSets w j (zip xs (typed_trees 0 around around es ks)) (zip (upward n (length xs)) kers)
  sets_kept j n [] ρ es kers b ks f a around q h = tt
  sets_kept j n (x ∷ xs) ρ _ _ (none_left _ _) ks f a around q h = tt
  sets_kept j n (x ∷ xs) ρ _ _ (one_more _ _ e k es kers b bs) ks f a around q h = (
    h,
    (
      built_kept None ρ e k b tt (take (nodes e) ks) f.0 a.0 around q,
      sets_kept (suc j) (suc n) xs ρ es kers bs (drop (nodes e) ks) f.1 a.1 around q (more j (length around) n h),
    ),
  )
    where
      more : (j k n : ℕ) → n ≡ j + k → suc n ≡ suc j + k
      more j k n h = omega (arith, h)

  -- ---- what is assigned

  module _ (m : Marks) (before : List ℕ) where
    two_marked : (o o' : Option ℕ) (make : ℕ → JobAssigned) (make' : ℕ → AssignedStep) → o ≡ o' →
        ((i : ℕ) → SameMark w (Some (i, make i)) (Some (i, make' i))) → SameMark w (option_map (λ i. (i, make i)) o) (option_map (λ i. (i, make' i)) o')
    two_marked o o' make make' q h = subst (λ r. SameMark w (option_map (λ i. (i, make i)) o) (option_map (λ i. (i, make' i)) r)) q (by o)
      where
        by : (o : Option ℕ) → SameMark w (option_map (λ i. (i, make i)) o) (option_map (λ i. (i, make' i)) o)
        by None = neither
        by (Some i) = h i

    none_both : {p : Place} {o : Op} {k : Ker} (ts : List TypedTree) → Rooted p o k → is_assigning o ≡ false → SameMark w (job_assignment_of m before o ts) (assignment m before k)
    none_both {o = o} {k = k} ts r h =
        subst (λ z. SameMark w z (assignment m before k)) (sym (no_job_assignment m before o ts h))
        (subst (SameMark w None) (sym (no_kernel_assignment m before (out-Ker k).op (out-Ker k).args (sym (same_assigning r.root) ∙ h))) neither)

    module _ (around : List (List ℕ)) (ρ : Numbering) (n : ρ ≡ counted around) where
      abbrev There : List Expr → List Kind → List TypedTree
      There es ks = typed_trees 0 around around es ks

      equal_sized : {es : List Expr} {kers : List Ker} (b : BuildsEach None ρ es kers) (ks : List Kind) → FittingEach b ks → AllApart es →
          SameMark w (job_assignment_of m before op.Eq (There es ks)) (assignment_of m before ker.Equal kers)
      equal_sized (none_left i ρ) ks f a = neither
      equal_sized (one_more i ρ e k es kers h (none_left _ _)) ks f a = neither
      equal_sized (one_more i ρ e k es kers h (one_more _ _ d l ds ls g (none_left _ _))) ks f a =
          let js : List Kind = take (nodes d) (drop (nodes e) ks) in
          two_marked _ _ (λ i. Sets i (record { tree = d; kinds = js; around = around })) (λ i. mark.Equals i l) (left_kept m before around (take (nodes e) ks) h)
          (λ i. both_equal i (record { tree = d; kinds = js; around = around }) l (built_kept None ρ d l g tt js f.1.0 a.1.0 around n))
      equal_sized (one_more i ρ e k es kers h (one_more _ _ d l ds ls g (one_more _ _ _ _ _ _ _ _))) ks f a = neither

      assign_sized : {es : List Expr} {kers : List Ker} (b : BuildsEach None ρ es kers) (ks : List Kind) → FittingEach b ks → AllApart es →
          SameMark w (job_assignment_of m before op.Assign (There es ks)) (assignment_of m before ker.Equal kers)
      assign_sized (none_left i ρ) ks f a = neither
      assign_sized (one_more i ρ e k es kers h (none_left _ _)) ks f a = neither
      assign_sized (one_more i ρ e k es kers h (one_more _ _ d l ds ls g (none_left _ _))) ks f a =
          let js : List Kind = take (nodes d) (drop (nodes e) ks) in
          two_marked _ _ (λ i. Sets i (record { tree = d; kinds = js; around = around })) (λ i. mark.Equals i l) (left_kept m before around (take (nodes e) ks) h)
          (λ i. both_equal i (record { tree = d; kinds = js; around = around }) l (built_kept None ρ d l g tt js f.1.0 a.1.0 around n))
      assign_sized (one_more i ρ e k es kers h (one_more _ _ d l ds ls g (one_more _ _ _ _ _ _ _ _))) ks f a = neither

      member_sized : {es : List Expr} {kers : List Ker} (b : BuildsEach None ρ es kers) (ks : List Kind) → FittingEach b ks → AllApart es →
          SameMark w (job_assignment_of m before op.In (There es ks)) (assignment_of m before ker.Member kers)
      member_sized (none_left i ρ) ks f a = neither
      member_sized (one_more i ρ e k es kers h (none_left _ _)) ks f a = neither
      member_sized (one_more i ρ e k es kers h (one_more _ _ d l ds ls g (none_left _ _))) ks f a =
          let js : List Kind = take (nodes d) (drop (nodes e) ks) in
          two_marked _ _ (λ i. SetsFrom i (record { tree = d; kinds = js; around = around })) (λ i. mark.Among i l) (left_kept m before around (take (nodes e) ks) h)
          (λ i. both_among i (record { tree = d; kinds = js; around = around }) l (built_kept None ρ d l g tt js f.1.0 a.1.0 around n))
      member_sized (one_more i ρ e k es kers h (one_more _ _ d l ds ls g (one_more _ _ _ _ _ _ _ _))) ks f a = neither

      same_sized : {es : List Expr} {kers : List Ker} (ko : KerOp) → is_same ko ≡ true → (b : BuildsEach None ρ es kers) (ks : List Kind) → FittingEach b ks → AllApart es →
          SameMark w (job_assignment_of m before (op_of ko) (There es ks)) (assignment_of m before ko kers)
      same_sized (ker.Const v) h b ks f a = absurd (false≢true h)
      same_sized ker.Equal h b ks f a = equal_sized b ks f a
      same_sized ker.Member h b ks f a = member_sized b ks f a
      same_sized ko h b ks f a = neither

      pub marks_sized : {i : Option Assignable} {p : Place} {o : Op} {es : List Expr} {xs : List (List ℕ)} {k : Ker} (b : BuildsNode i ρ p o es xs k) → is_note o ≡ false → (ks : List Kind) →
          FittingNode b ks → AllApart es → SameMark w (job_assignment_of m before o (There es (drop 1 ks))) (assignment m before k)
      marks_sized (same ρ p o ko es xs a kers e h g) q ks f u =
          subst (λ z. SameMark w (job_assignment_of m before z (There es (drop 1 ks))) (assignment m before (node p a ko kers))) e
          (subst (SameMark w (job_assignment_of m before (op_of ko) (There es (drop 1 ks)))) (sym (at_tree m before p a ko kers [])) (same_sized ko h g (drop 1 ks) f.1 u))
      marks_sized (assign ρ p es xs a kers g) q ks f u =
          subst (SameMark w (job_assignment_of m before op.Assign (There es (drop 1 ks)))) (sym (at_tree m before p a ker.Equal kers [])) (assign_sized g (drop 1 ks) f u)
      marks_sized (binder ρ p o ko es xs a kers bs ns e h r g c) q ks f u =
          none_both (There es (drop 1 ks)) (root_of (binder ρ p o ko es xs a kers bs ns e h r g c) q) (ap is_assigning (sym e) ∙ binder_assigns m before ko h)
      marks_sized (noted i ρ p x es xs k g) q ks f u = absurd (true≢false q)
      marks_sized (as_value m ρ p o es xs k z h) q ks f u = marks_sized h q ks f u
      marks_sized {es = es} h q ks f u = none_both (There es (drop 1 ks)) (root_of h q) refl
