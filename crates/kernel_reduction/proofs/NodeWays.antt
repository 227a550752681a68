-- Paths of a node of an action and of what is built of it, whose steps are related, by those of its children.
use Rattle.std.proofs.Common.{◌≡◌, ℕ, zero, suc, Bool, true, false, ◌||◌, List, [], ◌∷◌, ◌++◌, map, zip, take, length, true≢false, refl, sym, ◌∙◌, ap, ap₂, subst, Option, Some, None, option_map, if◌then◌else◌}
use Rattle.std.specs.Prelude.{drop}
use Rattle.std.specs.List.{slice_get}
use Rattle.tla_meaning.specs.declared.actions.Assignable.{Assignable}
use Rattle.tla_meaning.specs.declared.expr.Expr.{Expr, out-Expr, roll-out-Expr}
use Rattle.tla_meaning.specs.declared.op.Op.{Op}
use Rattle.tla_meaning.specs.declared.op.Op.TheVariants as op
use Rattle.tla_meaning.specs.declared.place.Place.{Place}
use Rattle.tla_meaning.specs.Actions.{counts}
use Rattle.tla_meaning.proofs.Views.{and_right, false≢true}
use Rattle.snowcat_rows.specs.declared.types.Ty.{Ty}
use Rattle.kernel_trees.specs.declared.kernel.Ker.{Ker, out-Ker, out-roll-Ker}
use Rattle.kernel_trees.specs.declared.kernel.Ker.TheOpen.{Ker-F}
use Rattle.kernel_trees.specs.declared.kernel.KerOp.TheVariants as ker
use Rattle.kernel_trees.specs.Paths.{Marks, Step, Holds, Branch, Choice, Parted, any_mentions, choice_ways, ends_at, if_ways, mentions, place_of, sets, ways}
use Rattle.kernel_trees.specs.TypeKinds.{Kind}
use Rattle.kernel_trees.specs.Ways.{Way, all_of, alone, any_of, branch}
use Rattle.kernel_trees.proofs.LawOfPaths.{ways-roll}
use Rattle.kernel_trees.proofs.Trees.{mentions-roll}
use Rattle.kernel_reduction.specs.JobPaths.{JobParted, JobStep, Operand, Guarded, Chosen, Unmatched, TypedTree, any_holds, ends_there, job_case_ways, job_choice_ways, job_if_ways, job_sets, job_ways, job_ways_of, root_place, typed_trees}
use Rattle.kernel_reduction.specs.Reduction.{Numbering, all_fresh, any_mentioned, fresh, numbered}
use Rattle.kernel_reduction.specs.Builds.{Builds, BuildsEach, BuildsArms, BuildsNode, at_node, none_left, one_more, no_arms, other_arm, one_arm, noted, as_value, conjunction, disjunction, choice, branches, split_cases, passes_on}
use Rattle.kernel_reduction.specs.Rows.{case_branches, guard_of, negation, node, tree, twice_negated}
use Rattle.kernel_reduction.specs.inner.SameWays.{Pairs, SameWay, SameWays}
use Rattle.kernel_reduction.specs.inner.Steps.{SameStep, guard_is_false, guard_is_true, is_note, same_choice, same_end, same_guard, same_operand, trees}
use Rattle.kernel_reduction.proofs.Basics.{append_none}
use Rattle.kernel_reduction.proofs.CaseWays.{arm_branch, guard_steps, last_branch, more_guards}
use Rattle.kernel_reduction.proofs.JobTrees.{inside_trees, job_ways-roll, with_job_ways}
use Rattle.kernel_reduction.proofs.Mentioned.{mentioned_is}
use Rattle.kernel_reduction.proofs.Operands.{any_beside, beside, mentions_node, operand_ways, value_root}
use Rattle.kernel_reduction.proofs.Roots.{tree_root}
use Rattle.kernel_reduction.proofs.StepsTold.{step_told}
use Rattle.kernel_reduction.proofs.WayPairs.{pairs_append, same_all, same_alone, same_any, same_behind, same_branch}

-- ---- lists

abbrev pub first : {X : Type 0} → List X → Option X
first [] = None
first (x ∷ xs) = Some x

pub at_is_first : {X : Type 0} (n : ℕ) (xs : List X) → slice_get xs n ≡ first (drop n xs)
at_is_first zero [] = refl
at_is_first zero (x ∷ xs) = refl
at_is_first (suc n) [] = refl
at_is_first (suc n) (x ∷ xs) = at_is_first n xs

pub trees_take : (n : ℕ) (ts : List TypedTree) → trees (take n ts) ≡ take n (trees ts)
trees_take zero ts = refl
trees_take (suc n) [] = refl
trees_take (suc n) (t ∷ ts) = ap (λ l. t.tree ∷ l) (trees_take n ts)

pub trees_drop : (n : ℕ) (ts : List TypedTree) → trees (drop n ts) ≡ drop n (trees ts)
trees_drop zero ts = refl
trees_drop (suc n) [] = refl
trees_drop (suc n) (t ∷ ts) = trees_drop n ts

pub trees_typed : (n : ℕ) (outer inner : List (List ℕ)) (es : List Expr) (ks : List Kind) → trees (typed_trees n outer inner es ks) ≡ es
trees_typed n outer inner [] ks = refl
trees_typed zero outer inner (e ∷ es) ks = ap (λ l. e ∷ l) (trees_typed zero outer inner es _)
trees_typed (suc n) outer inner (e ∷ es) ks = ap (λ l. e ∷ l) (trees_typed n outer inner es _)

pub same_head : {X : Type 0} {x y : X} {xs ys : List X} → x ∷ xs ≡ y ∷ ys → x ≡ y
same_head q = cc

pub same_tail : {X : Type 0} {x y : X} {xs ys : List X} → x ∷ xs ≡ y ∷ ys → xs ≡ ys
same_tail q = cc

pub not_nil : {X : Type 0} {x : X} {xs : List X} → [] ≡ x ∷ xs → ⊥
not_nil q = cc

pub not_cons : {X : Type 0} {x : X} {xs : List X} → x ∷ xs ≡ [] → ⊥
not_cons q = cc

-- parts that are built stand where those of the expression do
pub second_part : {i j : Option Assignable} {ρ σ : Numbering} {ks bs : List Ker} (n : ℕ) (es : List Expr) → BuildsEach i ρ (take n es) ks → BuildsEach j σ (drop n es) bs →
    slice_get (ks ++ bs) n ≡ first bs
second_part zero es (none_left i ρ) g = at_is_first zero _
second_part (suc n) [] (none_left i ρ) (none_left j σ) = refl
second_part (suc n) (e ∷ es) (one_more i ρ _ k _ ks h r) g = second_part n es r g

pub first_part : {i j : Option Assignable} {ρ σ : Numbering} {ks bs : List Ker} (n : ℕ) (es : List Expr) → BuildsEach i ρ (take n es) ks → BuildsEach j σ (drop n es) bs →
    take n (ks ++ bs) ≡ ks
first_part zero es (none_left i ρ) g = refl
first_part (suc n) [] (none_left i ρ) (none_left j σ) = refl
first_part (suc n) (e ∷ es) (one_more i ρ _ k _ ks h r) g = ap (λ l. k ∷ l) (first_part n es r g)

pub fresh_length : (xs : List (List ℕ)) (ns : List ℕ) (ρ : Numbering) → all_fresh xs ns ρ ≡ true → length ns ≡ length xs
fresh_length [] [] ρ h = refl
fresh_length [] (n ∷ ns) ρ h = absurd (false≢true h)
fresh_length (x ∷ xs) [] ρ h = absurd (false≢true h)
fresh_length (x ∷ xs) (n ∷ ns) ρ h = ap suc (fresh_length xs ns (ρ ++ (x, n) ∷ []) (and_right (fresh n ρ) (all_fresh xs ns (ρ ++ (x, n) ∷ [])) h))

pub zip_job_sets : (xs : List (List ℕ)) (ts : List TypedTree) → job_sets (zip xs (take (length xs) ts)) ≡ take (length xs) ts
zip_job_sets [] ts = refl
zip_job_sets (x ∷ xs) [] = refl
zip_job_sets (x ∷ xs) (t ∷ ts) = ap (λ l. t ∷ l) (zip_job_sets xs ts)

pub zip_sets : (ns : List ℕ) (ks : List Ker) → sets (zip ns (take (length ns) ks)) ≡ take (length ns) ks
zip_sets [] ks = refl
zip_sets (n ∷ ns) [] = refl
zip_sets (n ∷ ns) (k ∷ ks) = ap (λ l. k ∷ l) (zip_sets ns ks)

take_firsts : {X Y : Type 0} (f : X → Y) (n : ℕ) (xs : List X) → map (λ (y : X × Y). y.0) (take n (map (λ x. (x, f x)) xs)) ≡ take n xs
take_firsts f zero xs = refl
take_firsts f (suc n) [] = refl
take_firsts f (suc n) (x ∷ xs) = ap (λ l. x ∷ l) (take_firsts f n xs)

get_beside : {X Y : Type 0} (f : X → Y) (n : ℕ) (xs : List X) → slice_get (map f xs) n ≡ option_map f (slice_get xs n)
get_beside f n [] = refl
get_beside f zero (x ∷ xs) = refl
get_beside f (suc n) (x ∷ xs) = get_beside f n xs

module _ (m : Assignable) where
  abbrev counted : ℕ → Bool → Place → Bool
  counted i primed p = counts m i primed

  pub any_trees : (ts : List TypedTree) → any_holds (counts m) (with_job_ways (counts m) ts) ≡ any_mentioned m (trees ts)
  any_trees [] = refl
  any_trees (t ∷ ts) = ap₂ (λ (a b : Bool). a || b) (sym (mentioned_is m t.tree)) (any_trees ts)

  -- ---- one operand of the job

  pub job_operand : (o : Op) (self : TypedTree) (p : Place) (xs : List (List ℕ)) (ts : List TypedTree) → passes_on m o (trees ts) ≡ false →
      job_ways_of (counts m) o self p xs (with_job_ways (counts m) ts) ≡ alone (Operand self)
  job_operand op.And self p xs ts q = absurd (true≢false q)
  job_operand op.Or self p xs ts q = absurd (true≢false q)
  job_operand op.Exists self p xs ts q = absurd (true≢false q)
  job_operand (op.Noted x) self p xs ts q = absurd (true≢false q)
  job_operand op.If self p xs ts q =
      ap (λ b. if b then job_if_ways self p (with_job_ways (counts m) ts) else alone (Operand self)) (any_trees ts ∙ q)
  job_operand (op.Case other) self p xs ts q =
      ap (λ b. if b then job_case_ways p [] (with_job_ways (counts m) ts) else alone (Operand self)) (any_trees ts ∙ q)
  job_operand o self p xs ts q = refl

  pub no_note : (o : Op) (es : List Expr) → passes_on m o es ≡ false → is_note o ≡ false
  no_note (op.Noted x) es q = absurd (true≢false q)
  no_note o es q = refl

-- where related steps end a path alike
module _ (m : Assignable) (R : JobStep → Step → Type 0) (alike : (x : JobStep) (z : Step) → R x z → ends_there x ≡ ends_at z) where
  abbrev pub M : Marks
  M = counts m

  -- ---- operands beside each other

  -- a tree whose root and whose paths are kept
  abbrev pub Kept : TypedTree → Ker → Type 0
  Kept t k = (root_place t.tree ≡ (out-Ker k).place) × SameWays R (job_ways M t) (ways M k)

  kept_ways : (ts : List TypedTree) (ks : List Ker) → Pairs Kept ts ks →
      Pairs (SameWays R) (map (λ (k : JobParted). k.1) (with_job_ways M ts)) (map (λ (k : Parted). k.1) (map (beside M) ks))
  kept_ways [] [] h = tt
  kept_ways [] (k ∷ ks) h = absurd h
  kept_ways (t ∷ ts) [] h = absurd h
  kept_ways (t ∷ ts) (k ∷ ks) h = (h.0.1, kept_ways ts ks h.1)

  pub and_ways : (p : Place) (a : Ty) (ts : List TypedTree) (ks : List Ker) → Pairs Kept ts ks →
      SameWays R (all_of ends_there (map (λ k. k.1) (with_job_ways M ts))) (ways M (node p a ker.And ks))
  and_ways p a ts ks h =
      subst (SameWays R _) (sym (ways-roll M _))
      (same_all R ends_there ends_at alike (map (λ (k : JobParted). k.1) (with_job_ways M ts)) (map (λ (k : Parted). k.1) (map (beside M) ks)) (kept_ways ts ks h))

  or_pairs : (ts : List TypedTree) (ks : List Ker) → Pairs Kept ts ks →
      SameWays R (any_of (map (λ (k : JobParted). (root_place k.0.tree, k.1)) (with_job_ways M ts))) (any_of (map (λ (k : Parted). (place_of k, k.1)) (map (beside M) ks)))
  or_pairs ts ks h = same_any R _ _ (by ts ks h)
    where
      by : (ts : List TypedTree) (ks : List Ker) → Pairs Kept ts ks →
          Pairs (λ (a : Place × List (Way JobStep)) (b : Place × List (Way Step)). (a.0 ≡ b.0) × SameWays R a.1 b.1)
          (map (λ (k : JobParted). (root_place k.0.tree, k.1)) (with_job_ways M ts)) (map (λ (k : Parted). (place_of k, k.1)) (map (beside M) ks))
      by [] [] h = tt
      by [] (k ∷ ks) h = absurd h
      by (t ∷ ts) [] h = absurd h
      by (t ∷ ts) (k ∷ ks) h = (h.0, by ts ks h.1)

  pub or_ways : (self : TypedTree) (p : Place) (a : Ty) (ts : List TypedTree) (ks : List Ker) → (any_holds M (with_job_ways M ts) ≡ false → R (Operand self) (Holds (node p a ker.Or ks))) → Pairs Kept ts ks →
      any_holds M (with_job_ways M ts) ≡ mentions M (node p a ker.Or ks) →
      SameWays R
      (if any_holds M (with_job_ways M ts) then any_of (map (λ k. (root_place k.0.tree, k.1)) (with_job_ways M ts)) else alone (Operand self))
      (ways M (node p a ker.Or ks))
  or_ways self p a ts ks st h q =
      subst (SameWays R _) (sym (ways-roll M _))
      (by (any_holds M (with_job_ways M ts)) (any_mentions M (map (beside M) ks)) refl (q ∙ mentions-roll M _ ∙ sym (any_beside M ks)))
    where
      by : (c d : Bool) → any_holds M (with_job_ways M ts) ≡ c → c ≡ d →
          SameWays R
          (if c then any_of (map (λ (k : JobParted). (root_place k.0.tree, k.1)) (with_job_ways M ts)) else alone (Operand self))
          (if d then any_of (map (λ (k : Parted). (place_of k, k.1)) (map (beside M) ks)) else alone (Holds (node p a ker.Or ks)))
      by true true z e = or_pairs ts ks h
      by false false z e = same_alone R _ _ (st z)
      by true false z e = absurd (true≢false e)
      by false true z e = absurd (false≢true e)

  -- ---- choices

  choice_is : (self : Ker) (p : Place) (ns : List ℕ) (ks : List Ker) →
      choice_ways self p (zip ns (map (λ (k : Parted). k.0) (take (length ns) (map (beside M) ks)))) (slice_get (map (beside M) ks) (length ns))
      ≡ choice_ways self p (zip ns (take (length ns) ks)) (option_map (beside M) (slice_get ks (length ns)))
  choice_is self p ns ks =
      λ i. choice_ways self p (zip ns (take_firsts (ways M) (length ns) ks i)) (get_beside (beside M) (length ns) ks i)

  job_choice_is : (self : TypedTree) (p : Place) (xs : List (List ℕ)) (ts : List TypedTree) →
      job_choice_ways self p (zip xs (map (λ (k : JobParted). k.0) (take (length xs) (with_job_ways M ts)))) (slice_get (with_job_ways M ts) (length xs))
      ≡ job_choice_ways self p (zip xs (take (length xs) ts)) (option_map (λ t. (t, job_ways M t)) (first (drop (length xs) ts)))
  job_choice_is self p xs ts =
      λ i. job_choice_ways self p (zip xs (take_firsts (job_ways M) (length xs) ts i))
      ((get_beside (λ t. (t, job_ways M t)) (length xs) ts ∙ ap (option_map (λ t. (t, job_ways M t))) (at_is_first (length xs) ts)) i)

  choose_ways : (self : TypedTree) (k : Ker) (p : Place) (ps : List (List ℕ × TypedTree)) (qs : List (ℕ × Ker)) (ts : List TypedTree) (bs : List Ker) →
      (ts ≡ [] → R (Operand self) (Holds k)) → R (Chosen p ps) (Choice p qs) → Pairs Kept ts bs →
      SameWays R (job_choice_ways self p ps (option_map (λ t. (t, job_ways M t)) (first ts))) (choice_ways k p qs (option_map (beside M) (first bs)))
  choose_ways self k p ps qs [] [] st c h = same_alone R _ _ (st refl)
  choose_ways self k p ps qs [] (b ∷ bs) st c h = absurd h
  choose_ways self k p ps qs (t ∷ ts) [] st c h = absurd h
  choose_ways self k p ps qs (t ∷ ts) (b ∷ bs) st c h = same_behind R _ _ _ _ c h.0.1

  pub some_ways : (self : TypedTree) (p : Place) (a : Ty) (xs : List (List ℕ)) (ns : List ℕ) (ts : List TypedTree) (es : List Expr) (ks bs : List Ker) (ρ σ : Numbering) →
      length ns ≡ length xs → (drop (length xs) ts ≡ [] → R (Operand self) (Holds (tree p a ker.Some (ks ++ bs) ns))) →
      R (Chosen p (zip xs (take (length xs) ts))) (Choice p (zip ns (take (length ns) (ks ++ bs)))) →
      BuildsEach None ρ (take (length xs) es) ks → BuildsEach (Some m) σ (drop (length xs) es) bs → Pairs Kept (drop (length xs) ts) bs →
      SameWays R
      (job_ways_of M op.Exists self p xs (with_job_ways M ts))
      (ways M (tree p a ker.Some (ks ++ bs) ns))
  some_ways self p a xs ns ts es ks bs ρ σ n st c g r h =
      subst (λ l. SameWays R l (ways M self')) (sym (job_choice_is self p xs ts))
      (subst (SameWays R (job_choice_ways self p (zip xs (take (length xs) ts)) (option_map (λ t. (t, job_ways M t)) (first (drop (length xs) ts)))))
      (sym (ways-roll M _ ∙ choice_is self' p ns (ks ++ bs) ∙ ap (λ o. choice_ways self' p (zip ns (take (length ns) (ks ++ bs))) (option_map (beside M) o)) (ap (slice_get (ks ++ bs)) n ∙ second_part (length xs) es g r)))
      (choose_ways self self' p (zip xs (take (length xs) ts)) (zip ns (take (length ns) (ks ++ bs))) (drop (length xs) ts) bs st c h))
    where
      self' : Ker
      self' = tree p a ker.Some (ks ++ bs) ns

  -- ---- IF

  abbrev guarded_ways : Place → Ker → Bool → Ker → List (Way Step)
  guarded_ways p g b k = branch (Branch p g b ∷ []) (out-Ker k).place (ways M k)

  -- a guard that is kept, whatever it is to be
  abbrev pub KeepsGuard : Place → Ty → TypedTree → Ker → Type 0
  KeepsGuard p b c g = (v : Bool) → R (Guarded p c v) (Branch p (guard_of p b g) v)

  if_kept : (p : Place) (a b : Ty) (c : TypedTree) (g : Ker) (ts : List TypedTree) (k l : Ker) (self : TypedTree) → KeepsGuard p b c g → Pairs Kept ts (k ∷ l ∷ []) →
      SameWays R (job_if_ways self p (with_job_ways M (c ∷ ts))) (guarded_ways p (guard_of p b g) true k ++ guarded_ways p (guard_of p b g) false l)
  if_kept p a b c g [] k l self h f = absurd f
  if_kept p a b c g (t ∷ []) k l self h f = absurd f.1
  if_kept p a b c g (t ∷ u ∷ []) k l self h f =
      pairs_append (SameWay R) _ _ _ _
      (same_branch R (Guarded p c true ∷ []) (Branch p (guard_of p b g) true ∷ []) _ _ _ _ (h true, tt) f.0.0 f.0.1)
      (same_branch R (Guarded p c false ∷ []) (Branch p (guard_of p b g) false ∷ []) _ _ _ _ (h false, tt) f.1.0.0 f.1.0.1)
  if_kept p a b c g (t ∷ u ∷ v ∷ ts) k l self h f = absurd f.1.1

  -- ---- CASE

  abbrev pub branch_ways : List Ker → List (Way Step)
  branch_ways ks = any_of (map (λ (k : Parted). (place_of k, k.1)) (map (beside M) ks))

  node_place : (q : Place) (a : Ty) (ks : List Ker) → (out-Ker (node q a ker.And ks)).place ≡ q
  node_place q a ks = ap (λ (x : Ker-F Ker). x.place) (out-roll-Ker _)

  -- the last branch: that of OTHER, or none
  pub other_ways : (p : Place) (a : Ty) (front : List JobStep) (gs : List Ker) (t : TypedTree) (k : Ker) → Pairs R front (guard_steps M p a gs) → Kept t k →
      SameWays R (branch front (root_place t.tree) (job_ways M t)) (branch_ways (case_branches p a gs [] (Some k)))
  other_ways p a front gs t k f h =
      subst (SameWays R (branch front (root_place t.tree) (job_ways M t)))
      (sym (append_none _ ∙ last_branch M p a (out-Ker k).place _ gs k ∙ ap (λ q. branch (guard_steps M p a gs) q (ways M k)) (node_place _ a _)))
      (same_branch R front (guard_steps M p a gs) _ _ (job_ways M t) (ways M k) f h.0 h.1)

  no_case_ways : (p : Place) (a : Ty) → ways M (node p a ker.NoCase []) ≡ alone (Holds (node p a ker.NoCase []))
  no_case_ways p a = ways-roll M _

  pub none_ways : (p : Place) (a : Ty) (front : List JobStep) (gs : List Ker) → R (Unmatched p) (Holds (node p a ker.NoCase [])) → Pairs R front (guard_steps M p a gs) →
      SameWays R (record { taken = Some p; steps = front ++ Unmatched p ∷ [] } ∷ []) (branch_ways (case_branches p a gs [] None))
  none_ways p a front gs e f =
      subst (SameWays R (record { taken = Some p; steps = front ++ Unmatched p ∷ [] } ∷ []))
      (sym (append_none _ ∙ last_branch M p a p _ gs (node p a ker.NoCase []) ∙ (λ i. branch (guard_steps M p a gs) (node_place p a (map (negation p a) gs ++ node p a ker.NoCase [] ∷ []) i) (no_case_ways p a i))))
      (record { taken = refl; steps = pairs_append R front (guard_steps M p a gs) _ _ f (e, tt) }, tt)

  pub arm_ways : (p : Place) (a : Ty) (front : List JobStep) (gs : List Ker) (c t : TypedTree) (g k : Ker) → Pairs R front (guard_steps M p a gs) → R (Guarded p c true) (Holds (twice_negated p a g)) → Kept t k →
      SameWays R (branch (front ++ Guarded p c true ∷ []) (root_place t.tree) (job_ways M t))
      (branch [] (out-Ker (node (out-Ker k).place a ker.And (map (negation p a) gs ++ twice_negated p a g ∷ k ∷ []))).place
      (ways M (node (out-Ker k).place a ker.And (map (negation p a) gs ++ twice_negated p a g ∷ k ∷ []))))
  arm_ways p a front gs c t g k f b h =
      subst (SameWays R (branch (front ++ Guarded p c true ∷ []) (root_place t.tree) (job_ways M t)))
      (sym (arm_branch M p a (out-Ker k).place _ gs g k ∙ ap (λ q. branch (guard_steps M p a gs ++ Holds (twice_negated p a g) ∷ []) q (ways M k)) (node_place _ a _)))
      (same_branch R _ _ _ _ (job_ways M t) (ways M k)
      (pairs_append R front (guard_steps M p a gs) _ _ f (b, tt)) h.0 h.1)

  pub more_fronts : (p : Place) (a : Ty) (front : List JobStep) (gs : List Ker) (c : TypedTree) (g : Ker) → Pairs R front (guard_steps M p a gs) → R (Guarded p c false) (Holds (negation p a g)) →
      Pairs R (front ++ Guarded p c false ∷ []) (guard_steps M p a (gs ++ g ∷ []))
  more_fronts p a front gs c g f b =
      subst (Pairs R (front ++ Guarded p c false ∷ [])) (sym (more_guards M p a gs g))
      (pairs_append R front (guard_steps M p a gs) _ _ f (b, tt))

  -- ---- every tree

  pub branches_ways : (p : Place) (a b : Ty) (g k l : Ker) (self t : TypedTree) (ts : List TypedTree) → any_mentioned m (trees (t ∷ ts)) ≡ true →
      mentions M (node p a ker.If (guard_of p b g ∷ k ∷ l ∷ [])) ≡ any_mentioned m (trees (t ∷ ts)) → KeepsGuard p b t g → Pairs Kept ts (k ∷ l ∷ []) →
      SameWays R (job_ways_of M op.If self p [] (with_job_ways M (t ∷ ts))) (ways M (node p a ker.If (guard_of p b g ∷ k ∷ l ∷ [])))
  branches_ways p a b g k l self t ts q n h f =
      subst (λ z. SameWays R (if z then job_if_ways self p (with_job_ways M (t ∷ ts)) else alone (Operand self)) (ways M self'))
      (sym (any_trees m (t ∷ ts) ∙ q))
      (subst (SameWays R (job_if_ways self p (with_job_ways M (t ∷ ts))))
      (sym (ways-roll M _ ∙ ap (λ z. if z then if_ways self' p (map (beside M) kids) else alone (Holds self')) (any_beside M kids ∙ sym (mentions-roll M _) ∙ n ∙ q)))
      (if_kept p a b t g ts k l self h f))
    where
      kids : List Ker
      kids = guard_of p b g ∷ k ∷ l ∷ []

      self' : Ker
      self' = node p a ker.If kids

  pub split_ways : (p : Place) (a : Ty) (es : List Expr) (ks : List Ker) (self : TypedTree) (other : Bool) (ts : List TypedTree) → trees ts ≡ es → any_mentioned m es ≡ true →
      mentions M (node p a ker.Or ks) ≡ any_mentioned m es → SameWays R (job_case_ways p [] (with_job_ways M ts)) (branch_ways ks) →
      SameWays R (job_ways_of M (op.Case other) self p [] (with_job_ways M ts)) (ways M (node p a ker.Or ks))
  split_ways p a es ks self other ts e q n f =
      subst (λ z. SameWays R (if z then job_case_ways p [] (with_job_ways M ts) else alone (Operand self)) (ways M (node p a ker.Or ks)))
      (sym (any_trees m ts ∙ ap (any_mentioned m) e ∙ q))
      (subst (SameWays R (job_case_ways p [] (with_job_ways M ts)))
      (sym (ways-roll M _ ∙ ap (λ z. if z then branch_ways ks else alone (Holds (node p a ker.Or ks))) (any_beside M ks ∙ sym (mentions-roll M _) ∙ n ∙ q)))
      f)

-- the paths of a tree, by those of its children
pub job_ways_is : (M : Marks) (e : Expr) (around : List (List ℕ)) (ks : List Kind) →
    let o : Op = (out-Expr e).op in
    let xs : List (List ℕ) = (out-Expr e).binds in
    job_ways M (record { tree = e; kinds = ks; around = around })
    ≡ job_ways_of M o (record { tree = e; kinds = ks; around = around }) (out-Expr e).place xs
    (with_job_ways M (inside_trees o xs around (out-Expr e).args (drop 1 ks)))
job_ways_is M e around ks =
    let o : Op = (out-Expr e).op in
    let xs : List (List ℕ) = (out-Expr e).binds in
    ap (λ z. job_ways M (record { tree = z; kinds = ks; around = around })) (sym (roll-out-Expr e))
    ∙ job_ways-roll M (out-Expr e) around ks
    ∙ ap (λ z. job_ways_of M o (record { tree = z; kinds = ks; around = around }) (out-Expr e).place xs
    (with_job_ways M (inside_trees o xs around (out-Expr e).args (drop 1 ks)))) (roll-out-Expr e)
