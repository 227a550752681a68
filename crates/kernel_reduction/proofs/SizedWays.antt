-- What is built in an action position with fitting types has the paths of its expression, whose steps are sized alike.
use Rattle.std.proofs.Common.{◌≡◌, ℕ, zero, suc, ◌+◌, ◌≤◌, Bool, true, false, List, [], ◌∷◌, ◌++◌, map, zip, take, length, true≢false, Option, Some, None, refl, sym, ◌∙◌, ap, ap₂, subst, arith, if◌then◌else◌}
use Rattle.std.specs.Prelude.{drop}
use Rattle.std.specs.List.{list_any}
use Rattle.tla_meaning.specs.declared.actions.Assignable.{Assignable}
use Rattle.tla_meaning.specs.declared.expr.Expr.{Expr, out-Expr}
use Rattle.tla_meaning.specs.declared.op.Op.{Op}
use Rattle.tla_meaning.specs.declared.op.Op.TheVariants as op
use Rattle.tla_meaning.specs.declared.place.Place.{Place}
use Rattle.tla_meaning.specs.Actions.{counts}
use Rattle.snowcat_rows.specs.declared.types.Ty.{Ty}
use Rattle.kernel_trees.specs.declared.kernel.Ker.{Ker, out-Ker}
use Rattle.kernel_trees.specs.declared.kernel.KerOp.TheVariants as ker
use Rattle.kernel_trees.specs.Paths.{Marks, Step, Holds, Branch, Choice, ways}
use Rattle.kernel_trees.specs.TypeKinds.{Kind}
use Rattle.kernel_trees.specs.Ways.{alone}
use Rattle.kernel_reduction.specs.JobPaths.{JobStep, Operand, Guarded, Chosen, Unmatched, TypedTree, any_holds, ends_there, job_case_ways, job_ways, job_ways_of, names_inside, nodes, set_count, typed_trees}
use Rattle.kernel_trees.specs.Paths as kernel
use Rattle.kernel_reduction.specs.Builds as rows
use Rattle.kernel_reduction.specs.Builds.{Builds, BuildsEach, BuildsArms, BuildsNode, at_node, none_left, one_more, no_arms, other_arm, one_arm, noted, as_value, conjunction, disjunction, choice, branches, split_cases, passes_on}
use Rattle.kernel_reduction.specs.Fitting.{Fitting, FittingArms, FittingEach, FittingNode, behind}
use Rattle.kernel_reduction.specs.Laws.{IsSilent}
use Rattle.kernel_reduction.specs.Reduction.{Numbering, any_mentioned, mentioned, mentioned_at, numbered, upward}
use Rattle.kernel_reduction.specs.Rows.{case_branches, guard_of, negation, node, tree, twice_negated}
use Rattle.kernel_reduction.specs.SizeLaws.{is_apart}
use Rattle.kernel_reduction.specs.inner.SameWays.{Pairs, SameWay, SameWays}
use Rattle.kernel_reduction.specs.inner.Settings.{counted}
use Rattle.kernel_reduction.specs.inner.Steps.{SameStep, guard_is_false, guard_is_true, is_note, same_choice, same_end, same_guard, same_operand, trees}
use Rattle.kernel_reduction.proofs.Apart.{AllApart, apart_drop, apart_take, children_apart}
use Rattle.kernel_reduction.proofs.Counting.{long_counted, numbered_up}
use Rattle.kernel_reduction.proofs.JobTrees.{inside_trees, with_job_ways}
use Rattle.kernel_reduction.proofs.Levelled.{Levelled, LevelledArms, LevelledEach, LevelledNode}
use Rattle.kernel_reduction.proofs.NodeWays.{Kept, KeepsGuard, and_ways, any_trees, arm_ways, branch_ways, branches_ways, first_part, fresh_length, job_operand, job_ways_is, more_fronts, no_note, none_ways, or_ways, other_ways, some_ways, split_ways, trees_drop, trees_typed}
use Rattle.kernel_reduction.proofs.CaseWays.{guard_steps}
use Rattle.kernel_reduction.proofs.Operands.{mentions_node, operand_ways, value_root}
use Rattle.kernel_reduction.proofs.Roots.{tree_root}
use Rattle.kernel_reduction.proofs.SizedSteps.{KeptSets, KeptTree, SizedStep, sized_branch, sized_choice, sized_end, sized_guard, sized_operand}
use Rattle.kernel_reduction.proofs.SizedTrees.{built_kept, end_assigns, end_rank, front_trees, guard_assigns, guard_kept, marks_sized, negation_assigns, once_kept, rest_trees, sets_kept, twice_kept}
use Rattle.kernel_reduction.proofs.SizesKept.{any_map, mentioned_out}
use Rattle.kernel_reduction.proofs.StepsTold.{step_told}
use Rattle.kernel_reduction.proofs.WayPairs.{pairs_append, same_alone}
use Rattle.kernel_reduction.proofs.WaysKept.{domains}

-- the numbers that a choice binds are those of its names
numbers_of : (xs around : List (List ℕ)) (ns : List ℕ) (ρ : Numbering) → ρ ≡ counted around → ns ≡ upward (length ρ) (length xs) → ns ≡ upward (length around) (length xs)
numbers_of xs around ns ρ n l = l ∙ ap (λ k. upward k (length xs)) (ap length n ∙ long_counted 0 around)

around_body : (xs around : List (List ℕ)) (ns : List ℕ) (ρ : Numbering) → ρ ≡ counted around → ns ≡ upward (length ρ) (length xs) → numbered xs ns ρ ≡ counted (around ++ xs)
around_body xs around ns ρ n l = ap₂ (numbered xs) (numbers_of xs around ns ρ n l) n ∙ numbered_up around xs

-- of no tree nothing is built, in any position
no_tree : {i : Option Assignable} {σ : Numbering} {es : List Expr} {bs : List Ker} → es ≡ [] → BuildsEach i σ es bs →
    (c : BuildsEach None σ es bs) × ((ks : List Kind) → FittingEach c ks)
no_tree q (none_left i σ) = (none_left None _, λ ks. tt)
no_tree q (one_more i σ e k es ks b bs) = absurd (no_cons q)
  where
    no_cons : {x : Expr} {xs : List Expr} → x ∷ xs ≡ [] → ⊥
    no_cons e = cc

module _ (w : ℕ) (wide : 2 ≤ w) (m : Assignable) (l : Marks) where
  abbrev N : Marks
  N = counts m

  -- steps that are built, and sized alike by the marks l
  abbrev pub R : JobStep → Step → Type 0
  R x z = SameStep x z × SizedStep w l x z

  pub alike : (x : JobStep) (z : Step) → R x z → ends_there x ≡ kernel.ends_at z
  alike x z h = (step_told N h.0).ends

  abbrev Alike : TypedTree → Ker → Type 0
  Alike t k = Kept m R alike t k

  abbrev at_tree : Expr → List Kind → List (List ℕ) → TypedTree
  at_tree e ks around = record { tree = e; kinds = ks; around = around }

  abbrev There : List (List ℕ) → List Expr → List Kind → List TypedTree
  There around es ks = typed_trees 0 around around es ks

  operand_step : (i : Option Assignable) (ρ : Numbering) (e : Expr) (k : Ker) (b : BuildsNode i ρ (out-Expr e).place (out-Expr e).op (out-Expr e).args (out-Expr e).binds k) → IsSilent i e →
      is_note (out-Expr e).op ≡ false → (ks : List Kind) → FittingNode b ks → is_apart e ≡ true → (around : List (List ℕ)) → ρ ≡ counted around → R (Operand (at_tree e ks around)) (Holds k)
  operand_step i ρ e k b s q ks f a around n =
      let t : TypedTree = at_tree e ks around in (
        same_operand i ρ t k q (at_node i ρ e k b),
        sized_operand t k (built_kept w wide i ρ e k (at_node i ρ e k b) s ks f a around n)
            (λ before. marks_sized w wide l before around ρ n b q ks f (children_apart e a)),
      )

  module _ (p : Place) (a : Ty) (ρ : Numbering) (t : TypedTree) (g : Ker) (b : Builds None ρ t.tree g) (f : KeptTree w t g) where
    guard_step : KeepsGuard m R alike p a t g
    guard_step v = (same_guard ρ p t v a g b, sized_branch p t v (guard_of p a g) (guard_kept w p a t g f) (guard_assigns l p a g))

    true_step : R (Guarded p t true) (Holds (twice_negated p a g))
    true_step = (guard_is_true ρ p t a g b, sized_guard p t true (twice_negated p a g) (twice_kept w p a t g f) (negation_assigns l p a (negation p a g)))

    false_step : R (Guarded p t false) (Holds (negation p a g))
    false_step = (guard_is_false ρ p t a g b, sized_guard p t false (negation p a g) (once_kept w p a t g f) (negation_assigns l p a g))

  end_step : (p : Place) (a : Ty) → R (Unmatched p) (Holds (node p a ker.NoCase []))
  end_step p a = (same_end p a, sized_end p (node p a ker.NoCase []) (end_rank w p a) (end_assigns l p a))

  -- the sets of a choice
  choice_step : (p : Place) (ρ : Numbering) (xs around inner : List (List ℕ)) (ns : List ℕ) (es : List Expr) (kers bs : List Ker) {i : Option Assignable} {σ : Numbering} (ks : List Kind) →
      ρ ≡ counted around → ns ≡ upward (length ρ) (length xs) → length ns ≡ length xs → (g : BuildsEach None ρ (take (length xs) es) kers) → BuildsEach i σ (drop (length xs) es) bs →
      FittingEach g ks → AllApart (take (length xs) es) →
      R (Chosen p (zip xs (take (length xs) (typed_trees (length xs) around inner es ks)))) (Choice p (zip ns (take (length ns) (kers ++ bs))))
  choice_step p ρ xs around inner ns es kers bs ks n u v g r f a =
      let ts : List TypedTree = typed_trees (length xs) around inner es ks in (
        same_choice ρ p _ _ (domains m ρ xs ns ts es kers bs (trees_typed (length xs) around inner es ks) v g r),
        subst (λ (us : List TypedTree). SizedStep w l (Chosen p (zip xs us)) (Choice p (zip ns (take (length ns) (kers ++ bs))))) (sym (front_trees (length xs) around inner es ks))
            (subst (λ (zs : List Ker). SizedStep w l (Chosen p (zip xs (There around (take (length xs) es) ks))) (Choice p (zip ns zs)))
            (sym (ap (λ j. take j (kers ++ bs)) v ∙ first_part (length xs) es g r))
            (subst (λ (js : List ℕ). SizedStep w l (Chosen p (zip xs (There around (take (length xs) es) ks))) (Choice p (zip js kers))) (sym (numbers_of xs around ns ρ n u))
            (sized_choice p _ _ (sets_kept w wide 0 (length around) xs ρ (take (length xs) es) kers g ks f a around n (none_more (length around)))))),
      )
    where
      none_more : (j : ℕ) → j ≡ 0 + j
      none_more j = omega arith

  -- ---- every tree

  mutual
    pub sized_ways : {ρ : Numbering} {e : Expr} {k : Ker} (b : Builds (Some m) ρ e k) (ks : List Kind) → Fitting b ks → Levelled b → is_apart e ≡ true → (around : List (List ℕ)) → ρ ≡ counted around →
        SameWays R (job_ways N (at_tree e ks around)) (ways N k)
    sized_ways (at_node i ρ e k h) ks f v a around n =
        subst (λ ys. SameWays R ys (ways N k)) (sym (job_ways_is N e around ks))
        (node_sized h (at_tree e ks around) ks (λ j c s q d. operand_step j ρ e k c s q ks d a around n) (λ q. mentioned_out m e ∙ q) f v (children_apart e a) around n)

    each_sized : {ρ : Numbering} {es : List Expr} {kers : List Ker} (b : BuildsEach (Some m) ρ es kers) (ks : List Kind) → FittingEach b ks → LevelledEach b → AllApart es →
        (around : List (List ℕ)) → ρ ≡ counted around → Pairs Alike (There around es ks) kers
    each_sized (none_left i ρ) ks f v a around n = tt
    each_sized (one_more i ρ e k es kers h g) ks f v a around n = (
      (sym (tree_root h).place, sized_ways h (take (nodes e) ks) f.0 v.0 a.0 around n),
      each_sized g (drop (nodes e) ks) f.1 v.1 a.1 around n,
    )

    arms_sized : {ρ : Numbering} {es : List Expr} {ys : List (Ker × Ker)} {o : Option Ker} (b : BuildsArms m ρ es ys o) (p : Place) (a : Ty) (front : List JobStep) (gs : List Ker) →
        Pairs R front (guard_steps N p a gs) → (ks : List Kind) → FittingArms b ks → LevelledArms b → AllApart es → (around : List (List ℕ)) → ρ ≡ counted around →
        SameWays R (job_case_ways p front (with_job_ways N (There around es ks))) (branch_ways m R alike (case_branches p a gs ys o))
    arms_sized (no_arms _ ρ) p a front gs s ks f v u around n = none_ways m R alike p a front gs (end_step p a) s
    arms_sized (other_arm _ ρ e k h) p a front gs s ks f v u around n =
        let t : TypedTree = at_tree e (take (nodes e) ks) around in
        other_ways m R alike p a front gs t k s (sym (tree_root h).place, sized_ways h (take (nodes e) ks) f v u.0 around n)
    arms_sized (one_arm _ ρ c e g k es xs o b h r) p a front gs s ks f v u around n =
        let t : TypedTree = at_tree c (take (nodes c) ks) around in
        let js : List Kind = drop (nodes c) ks in
        let y : KeptTree w t g = built_kept w wide None ρ c g b tt (take (nodes c) ks) f.0 u.0 around n in
        pairs_append (SameWay R) _ _ _ _
        (arm_ways m R alike p a front gs t (at_tree e (take (nodes e) js) around) g k s (true_step p a ρ t g b y)
        (sym (tree_root h).place, sized_ways h (take (nodes e) js) f.1.0 v.0 u.1.0 around n))
        (arms_sized r p a (front ++ Guarded p t false ∷ []) (gs ++ g ∷ []) (more_fronts m R alike p a front gs t g s (false_step p a ρ t g b y)) (drop (nodes e) js) f.1.1 v.1 u.1.1 around n)

    node_sized : {ρ : Numbering} {p : Place} {o : Op} {es : List Expr} {xs : List (List ℕ)} {k : Ker} (b : BuildsNode (Some m) ρ p o es xs k) (self : TypedTree) (ks : List Kind) →
        ((j : Option Assignable) (c : BuildsNode j ρ p o es xs k) → IsSilent j self.tree → is_note o ≡ false → FittingNode c ks → R (Operand self) (Holds k)) →
        (mentioned_at m o (map (mentioned m) es) ≡ false → mentioned m self.tree ≡ false) → FittingNode b ks → LevelledNode b → AllApart es →
        (around : List (List ℕ)) → ρ ≡ counted around → SameWays R (job_ways_of N o self p xs (with_job_ways N (inside_trees o xs around es (drop 1 ks)))) (ways N k)
    node_sized (noted i ρ p x _ xs k (one_more _ _ e _ es _ h g)) self ks st silent f v u around n = sized_ways h (take (nodes e) (drop 1 ks)) f.0 v.0 u.0 around n
    node_sized (as_value _ ρ p o es xs k z h) self ks st silent f v u around n =
        let ts : List TypedTree = inside_trees o xs around es (drop 1 ks) in
        subst (λ ys. SameWays R ys (ways N k))
        (sym (job_operand m o self p xs ts (ap (passes_on m o) (trees_typed (set_count o xs) around (names_inside o xs around) es (drop 1 ks)) ∙ z)))
        (subst (SameWays R (alone (Operand self))) (sym (operand_ways (value_root m h z))) (same_alone R _ _ (st None h tt (no_note m o es z) f)))
    node_sized (conjunction _ ρ p es xs a kers g) self ks st silent f v u around n =
        and_ways m R alike p a (There around es (drop 1 ks)) kers (each_sized g (drop 1 ks) f v u around n)
    node_sized (disjunction _ ρ p es xs a kers g) self ks st silent f v u around n =
        let ts : List TypedTree = There around es (drop 1 ks) in
        let e : any_holds N (with_job_ways N ts) ≡ any_mentioned m es = any_trees m ts ∙ ap (any_mentioned m) (trees_typed 0 around around es (drop 1 ks)) in
        or_ways m R alike self p a ts kers
        (λ z. st (Some m) (disjunction m ρ p es xs a kers g) (silent (any_map m es ∙ sym e ∙ z)) refl f) (each_sized g (drop 1 ks) f v u around n)
        (e ∙ sym (mentions_node m refl (disjunction m ρ p es xs a kers g)))
    node_sized (choice _ ρ p es xs a kers bs ns h b c) self ks st silent f v u around n =
        let js : List Kind = drop 1 ks in
        let inner : List (List ℕ) = around ++ xs in
        let ts : List TypedTree = typed_trees (length xs) around inner es js in
        let rest : drop (length xs) ts ≡ There inner (drop (length xs) es) (behind (length xs) es js) = rest_trees (length xs) around inner es js in
        some_ways m R alike self p a xs ns ts es kers bs ρ (numbered xs ns ρ) (fresh_length xs ns ρ h)
        (λ z.
        let y = no_tree (sym (ap (drop (length xs)) (trees_typed (length xs) around inner es js)) ∙ sym (trees_drop (length xs) ts) ∙ ap trees z) c in
        st None (rows.binder ρ p op.Exists ker.Some es xs a kers bs ns refl refl h b y.0) tt refl (f.0, y.1 (behind (length xs) es js)))
        (choice_step p ρ xs around inner ns es kers bs js n v.0 (fresh_length xs ns ρ h) b c f.0 (apart_take (length xs) es u)) b c
        (subst (λ (us : List TypedTree). Pairs Alike us bs) (sym rest)
        (each_sized c (behind (length xs) es js) f.1 v.1 (apart_drop (length xs) es u) inner (around_body xs around ns ρ n v.0)))
    node_sized (branches _ ρ p c es xs a d g k j q h r) self ks st silent f v u around n =
        let t : TypedTree = at_tree c (take (nodes c) (drop 1 ks)) around in
        let js : List Kind = drop (nodes c) (drop 1 ks) in
        let e : any_mentioned m (trees (t ∷ There around es js)) ≡ any_mentioned m (c ∷ es) = ap (λ l. any_mentioned m (c ∷ l)) (trees_typed 0 around around es js) in
        branches_ways m R alike p a d g k j self t (There around es js) (e ∙ q)
        (mentions_node m refl (branches m ρ p c es xs a d g k j q h r) ∙ sym e)
        (guard_step p d ρ t g h (built_kept w wide None ρ c g h tt (take (nodes c) (drop 1 ks)) f.0 u.0 around n)) (each_sized r js f.1 v u.1 around n)
    node_sized (split_cases _ ρ p other es xs a ys o q g) self ks st silent f v u around n =
        split_ways m R alike p a es (case_branches p a [] ys o) self other (There around es (drop 1 ks)) (trees_typed 0 around around es (drop 1 ks)) q
        (mentions_node m refl (split_cases m ρ p other es xs a ys o q g)) (arms_sized g p a [] [] tt (drop 1 ks) f v u around n)
