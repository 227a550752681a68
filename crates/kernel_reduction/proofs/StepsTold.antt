-- Of steps whose trees are built the same is told.
use Rattle.std.proofs.Common.{◌≡◌, ℕ, Bool, true, false, ◌||◌, List, [], ◌∷◌, true≢false, refl, sym, ◌∙◌, ap, ap₂, Option, Some, None, option_map, if◌then◌else◌}
use Rattle.std.specs.Prelude.{take, drop}
use Rattle.std.specs.List.{list_any}
use Rattle.tla_meaning.specs.declared.actions.Assignable.{Assignable}
use Rattle.tla_meaning.specs.declared.expr.Expr.{Expr, out-Expr}
use Rattle.tla_meaning.specs.declared.op.Op.{Op}
use Rattle.tla_meaning.specs.declared.op.Op.TheVariants as op
use Rattle.tla_meaning.specs.declared.place.Place.{Place}
use Rattle.tla_meaning.proofs.Views.{false≢true}
use Rattle.snowcat_rows.specs.declared.types.Ty.{Ty}
use Rattle.kernel_trees.specs.declared.kernel.Ker.{Ker, out-Ker, out-roll-Ker}
use Rattle.kernel_trees.specs.declared.kernel.Ker.TheOpen.{Ker-F}
use Rattle.kernel_trees.specs.declared.kernel.KerOp.{KerOp}
use Rattle.kernel_trees.specs.declared.kernel.KerOp.TheVariants as ker
use Rattle.kernel_trees.specs.declared.path.AssignedStep.{AssignedStep}
use Rattle.kernel_trees.specs.declared.path.AssignedStep.TheVariants as mark
use Rattle.kernel_trees.specs.Assignments.{assignment, assignment_of, reads_at, target}
use Rattle.kernel_trees.specs.Paths.{Marks, Step, Holds, Branch, is_end, sets}
use Rattle.kernel_trees.specs.Trees.{op_of}
use Rattle.kernel_trees.specs.TypeKinds.{Kind}
use Rattle.kernel_reduction.specs.JobPaths.{JobAssigned, JobStep, Operand, Guarded, Unmatched, Sets, SetsFrom, ToldStep, TypedTree, and_before, assigned_or, has_name, job_assignment, job_assignment_of, job_reads, job_sets, kernel_reads, left_side, nodes, told_kernel_step, told_step, tree_reads, typed_trees}
use Rattle.kernel_reduction.specs.Reduction.{Numbering}
use Rattle.kernel_reduction.specs.Builds.{Builds, BuildsEach, BuildsNode, at_node, none_left, one_more, same, binder, noted, assign, as_value, is_same, is_binder}
use Rattle.kernel_reduction.specs.Rows.{guard_of, may_assign, negation, node, op_at, tree, twice_negated}
use Rattle.kernel_reduction.specs.inner.Steps.{SameStep, guard_is_false, guard_is_true, is_note, same_choice, same_end, same_guard, same_operand, trees}
use Rattle.kernel_reduction.proofs.Basics.{or_left, or_right}
use Rattle.kernel_reduction.proofs.InfiniteKept.{infinite_kept}
use Rattle.kernel_reduction.proofs.KernelNames.{has-roll, is_read, ker_has, reads_has}
use Rattle.kernel_reduction.proofs.NamesKept.{names_kept}
use Rattle.kernel_reduction.proofs.RowNames.{guard_has, negation_has, twice_has}
use Rattle.kernel_reduction.proofs.Roots.{Rooted, is_assigning, root_of, same_assigning, same_end_at, same_target, tree_root}
use Rattle.kernel_reduction.proofs.Telling.{SameTold, job_tells, kernel_by}

-- ---- what is read

-- trees that hold the same names
abbrev SameNames : Expr → Ker → Type 0
SameNames e k = (test : ℕ → Bool → Place → Bool) → has_name test e ≡ ker_has test k

reads_one : (m : Marks) (e : Expr) (k : Ker) → SameNames e k → (i : ℕ) (p : Place) → tree_reads m e i p ≡ reads_at m k i p
reads_one m e k h i p = h (is_read m i p) ∙ sym (reads_has m k i p)

pub same_reads : (t : TypedTree) (k : Ker) → SameNames t.tree k → job_reads (t ∷ []) ≡ kernel_reads (k ∷ [])
same_reads t k h = λ z. λ m i p. reads_one m t.tree k h i p z || false

each_reads : {i : Option Assignable} {ρ : Numbering} {es : List Expr} {ks : List Ker} → BuildsEach i ρ es ks → (m : Marks) (n : ℕ) (p : Place) →
    list_any (λ e. tree_reads m e n p) es ≡ kernel_reads ks m n p
each_reads (none_left i ρ) m n p = refl
each_reads (one_more i ρ e k es ks h g) m n p =
    ap₂ (λ (a b : Bool). a || b) (reads_one m e k (λ test. names_kept test h) n p) (each_reads g m n p)

reads_of_trees : (ts : List TypedTree) (m : Marks) (n : ℕ) (p : Place) → job_reads ts m n p ≡ list_any (λ e. tree_reads m e n p) (trees ts)
reads_of_trees [] m n p = refl
reads_of_trees (t ∷ ts) m n p = ap (λ (b : Bool). tree_reads m t.tree n p || b) (reads_of_trees ts m n p)

all_reads : {i : Option Assignable} {ρ : Numbering} (ts : List TypedTree) (ks : List Ker) → BuildsEach i ρ (trees ts) ks → job_reads ts ≡ kernel_reads ks
all_reads ts ks h = λ z. λ m n p. (reads_of_trees ts m n p ∙ each_reads h m n p) z

-- ---- what is assigned

abbrev job_mark : Option (ℕ × JobAssigned) → Option (ℕ × ToldStep)
job_mark o = option_map (λ a. (a.0, told_step a.1)) o

abbrev kernel_mark : Option (ℕ × AssignedStep) → Option (ℕ × ToldStep)
kernel_mark o = option_map (λ a. (a.0, told_kernel_step a.1)) o

-- an operand, by what it assigns and what it reads where it assigns nothing
abbrev by_mark : (Marks → ℕ → Place → Bool) → List ℕ → Option (ℕ × ToldStep) → ToldStep × List ℕ
by_mark r before None = (record { assigns = None; among = None; reads = r }, before)
by_mark r before (Some a) = (a.1, a.0 ∷ before)

job_by : (t : TypedTree) (before : List ℕ) (o : Option (ℕ × JobAssigned)) →
    (told_step (assigned_or t o), and_before o before) ≡ by_mark (job_reads (t ∷ [])) before (job_mark o)
job_by t before None = refl
job_by t before (Some a) = refl

kernel_by_is : (k : Ker) (before : List ℕ) (o : Option (ℕ × AssignedStep)) →
    kernel_by (λ i b. false) before k o ≡ by_mark (kernel_reads (k ∷ [])) before (kernel_mark o)
kernel_by_is k before None = refl
kernel_by_is k before (Some a) = refl

-- a name and what stands on the right side of it
two_marked : (o o' : Option ℕ) (make : ℕ → JobAssigned) (make' : ℕ → AssignedStep) → o ≡ o' →
    ((i : ℕ) → told_step (make i) ≡ told_kernel_step (make' i)) →
    job_mark (option_map (λ i. (i, make i)) o) ≡ kernel_mark (option_map (λ i. (i, make' i)) o')
two_marked o o' make make' q h = by o ∙ ap (λ o. kernel_mark (option_map (λ i. (i, make' i)) o)) q
  where
    by : (o : Option ℕ) → job_mark (option_map (λ i. (i, make i)) o) ≡ kernel_mark (option_map (λ i. (i, make' i)) o)
    by None = refl
    by (Some i) = ap (λ (s : ToldStep). Some (i, s)) (h i)

module _ (m : Marks) (before : List ℕ) where
  pub left_kept : {i : Option Assignable} {ρ : Numbering} {e : Expr} {k : Ker} (around : List (List ℕ)) (ks : List Kind) → Builds i ρ e k →
      left_side m before (record { tree = e; kinds = ks; around = around }) ≡ target m before (out-Ker k).op
  left_kept around ks h = same_target m before (tree_root h).root

  right_kept : {i : Option Assignable} {ρ : Numbering} {e : Expr} {k : Ker} (around : List (List ℕ)) (ks : List Kind) → Builds i ρ e k →
      job_reads ((record { tree = e; kinds = ks; around = around }) ∷ []) ≡ kernel_reads (k ∷ [])
  right_kept {e = e} {k = k} around ks h = same_reads (record { tree = e; kinds = ks; around = around }) k (λ test. names_kept test h)

  equal_marks : {i : Option Assignable} {ρ : Numbering} {es : List Expr} {ks : List Ker} → BuildsEach i ρ es ks → (around : List (List ℕ)) (kk : List Kind) →
      job_mark (job_assignment_of m before op.Eq (typed_trees 0 around around es kk)) ≡ kernel_mark (assignment_of m before ker.Equal ks)
  equal_marks (none_left i ρ) around kk = refl
  equal_marks (one_more i ρ e k es ks h (none_left _ _)) around kk = refl
  equal_marks (one_more i ρ e k es ks h (one_more _ _ f l fs ls g (none_left _ _))) around kk =
      two_marked _ _ (λ i. Sets i (record { tree = f; kinds = take (nodes f) (drop (nodes e) kk); around = around })) (λ i. mark.Equals i l) (left_kept around (take (nodes e) kk) h)
      (λ i. ap (λ r. record { assigns = Some i; among = None; reads = r }) (right_kept around (take (nodes f) (drop (nodes e) kk)) g))
  equal_marks (one_more i ρ e k es ks h (one_more _ _ f l fs ls g (one_more _ _ _ _ _ _ _ _))) around kk = refl

  assign_marks : {i : Option Assignable} {ρ : Numbering} {es : List Expr} {ks : List Ker} → BuildsEach i ρ es ks → (around : List (List ℕ)) (kk : List Kind) →
      job_mark (job_assignment_of m before op.Assign (typed_trees 0 around around es kk)) ≡ kernel_mark (assignment_of m before ker.Equal ks)
  assign_marks (none_left i ρ) around kk = refl
  assign_marks (one_more i ρ e k es ks h (none_left _ _)) around kk = refl
  assign_marks (one_more i ρ e k es ks h (one_more _ _ f l fs ls g (none_left _ _))) around kk =
      two_marked _ _ (λ i. Sets i (record { tree = f; kinds = take (nodes f) (drop (nodes e) kk); around = around })) (λ i. mark.Equals i l) (left_kept around (take (nodes e) kk) h)
      (λ i. ap (λ r. record { assigns = Some i; among = None; reads = r }) (right_kept around (take (nodes f) (drop (nodes e) kk)) g))
  assign_marks (one_more i ρ e k es ks h (one_more _ _ f l fs ls g (one_more _ _ _ _ _ _ _ _))) around kk = refl

  member_marks : {i : Option Assignable} {ρ : Numbering} {es : List Expr} {ks : List Ker} → BuildsEach i ρ es ks → (around : List (List ℕ)) (kk : List Kind) →
      job_mark (job_assignment_of m before op.In (typed_trees 0 around around es kk)) ≡ kernel_mark (assignment_of m before ker.Member ks)
  member_marks (none_left i ρ) around kk = refl
  member_marks (one_more i ρ e k es ks h (none_left _ _)) around kk = refl
  member_marks (one_more i ρ e k es ks h (one_more _ _ f l fs ls g (none_left _ _))) around kk =
      two_marked _ _ (λ i. SetsFrom i (record { tree = f; kinds = take (nodes f) (drop (nodes e) kk); around = around })) (λ i. mark.Among i l) (left_kept around (take (nodes e) kk) h)
      (λ i. ap₂ (λ r ps. record { assigns = Some i; among = Some ps; reads = r }) (right_kept around (take (nodes f) (drop (nodes e) kk)) g) (infinite_kept g))
  member_marks (one_more i ρ e k es ks h (one_more _ _ f l fs ls g (one_more _ _ _ _ _ _ _ _))) around kk = refl

  same_marks : {i : Option Assignable} {ρ : Numbering} {es : List Expr} {ks : List Ker} (ko : KerOp) → is_same ko ≡ true → BuildsEach i ρ es ks → (around : List (List ℕ)) (kk : List Kind) →
      job_mark (job_assignment_of m before (op_of ko) (typed_trees 0 around around es kk)) ≡ kernel_mark (assignment_of m before ko ks)
  same_marks (ker.Const v) h g around kk = absurd (false≢true h)
  same_marks ker.Equal h g around kk = equal_marks g around kk
  same_marks ker.Member h g around kk = member_marks g around kk
  same_marks ko h g around kk = refl

  pub no_job_assignment : (o : Op) (ts : List TypedTree) → is_assigning o ≡ false → job_assignment_of m before o ts ≡ None
  no_job_assignment op.Eq ts h = absurd (true≢false h)
  no_job_assignment op.Assign ts h = absurd (true≢false h)
  no_job_assignment op.In ts h = absurd (true≢false h)
  no_job_assignment o ts h = refl

  pub no_kernel_assignment : (o : KerOp) (ks : List Ker) → may_assign o ≡ false → assignment_of m before o ks ≡ None
  no_kernel_assignment ker.Equal ks h = absurd (true≢false h)
  no_kernel_assignment ker.Member ks h = absurd (true≢false h)
  no_kernel_assignment o ks h = refl

  none_both : {p : Place} {o : Op} {k : Ker} (ts : List TypedTree) → Rooted p o k → is_assigning o ≡ false →
      job_mark (job_assignment_of m before o ts) ≡ kernel_mark (assignment m before k)
  none_both {o = o} {k = k} ts r h =
      ap job_mark (no_job_assignment o ts h)
      ∙ sym (ap kernel_mark (no_kernel_assignment (out-Ker k).op (out-Ker k).args (sym (same_assigning r.root) ∙ h)))

  pub at_tree : (p : Place) (a : Ty) (ko : KerOp) (ks : List Ker) (xs : List ℕ) → assignment m before (tree p a ko ks xs) ≡ assignment_of m before ko ks
  at_tree p a ko ks xs = ap (λ (x : Ker-F Ker). assignment_of m before x.op x.args) (out-roll-Ker _)

  pub binder_assigns : (ko : KerOp) → is_binder ko ≡ true → is_assigning (op_of ko) ≡ false
  binder_assigns ker.Filter h = refl
  binder_assigns ker.MapOver h = refl
  binder_assigns ker.FunOf h = refl
  binder_assigns ker.Some h = refl
  binder_assigns ker.Every h = refl
  binder_assigns ko h = absurd (false≢true h)

  marks_kept : {i : Option Assignable} {ρ : Numbering} {p : Place} {o : Op} {es : List Expr} {xs : List (List ℕ)} {k : Ker} →
      BuildsNode i ρ p o es xs k → is_note o ≡ false → (around : List (List ℕ)) (kk : List Kind) →
      job_mark (job_assignment_of m before o (typed_trees 0 around around es kk)) ≡ kernel_mark (assignment m before k)
  marks_kept (same ρ p o ko es xs a ks e h g) q around kk =
      ap (λ z. job_mark (job_assignment_of m before z (typed_trees 0 around around es kk))) (sym e)
      ∙ same_marks ko h g around kk ∙ sym (ap kernel_mark (at_tree p a ko ks []))
  marks_kept (assign ρ p es xs a ks g) q around kk = assign_marks g around kk ∙ sym (ap kernel_mark (at_tree p a ker.Equal ks []))
  marks_kept (binder ρ p o ko es xs a ks bs ns e h f g r) q around kk =
      none_both (typed_trees 0 around around es kk) (root_of (binder ρ p o ko es xs a ks bs ns e h f g r) q) (ap is_assigning (sym e) ∙ binder_assigns ko h)
  marks_kept (noted i ρ p x es xs k g) q around kk = absurd (true≢false q)
  marks_kept (as_value m ρ p o es xs k z h) q around kk = marks_kept h q around kk
  marks_kept {es = es} h q around kk = none_both (typed_trees 0 around around es kk) (root_of h q) refl

-- ---- steps

module _ (m : Marks) where
  operand_told : {i : Option Assignable} {ρ : Numbering} (t : TypedTree) (k : Ker) → is_note (out-Expr t.tree).op ≡ false → Builds i ρ t.tree k →
      SameTold m (Operand t) (Holds k)
  operand_told t k q b = by b
    where
      by : {i : Option Assignable} {ρ : Numbering} → Builds i ρ t.tree k → SameTold m (Operand t) (Holds k)
      by (at_node i ρ e k h) = record {
        told = λ before.
            job_by t before (job_assignment m before t)
            ∙ (λ z. by_mark (same_reads t k (λ test. names_kept test b) z) before (marks_kept m before h q t.around (drop 1 t.kinds) z))
            ∙ sym (kernel_by_is k before (assignment m before k));
        ends = same_end_at (root_of h q).root;
        ended = same_end_at (root_of h q).root;
      }

  -- a tree that neither assigns nor ends
  abbrev pub IsPlain : Ker → Type 0
  IsPlain k = (may_assign (op_at k) ≡ false) × (is_end (op_at k) ≡ false)

  pub no_assignment : (before : List ℕ) (k : Ker) → may_assign (op_at k) ≡ false → assignment m before k ≡ None
  no_assignment before k h = no_kernel_assignment m before (out-Ker k).op (out-Ker k).args h

  guard_reads : (before : List ℕ) (t : TypedTree) (k : Ker) → SameNames t.tree k → may_assign (op_at k) ≡ false →
      job_tells m before (Guarded (out-Ker k).place t true) ≡ kernel_by m before k (assignment m before k)
  guard_reads before t k h q =
      ap (λ r. (record { assigns = None; among = None; reads = r }, before)) (same_reads t k h) ∙ ap (kernel_by m before k) (sym (no_assignment before k q))

  pub negation_plain : (p : Place) (a : Ty) (k : Ker) → IsPlain (negation p a k)
  negation_plain p a k = (ap (λ (x : Ker-F Ker). may_assign x.op) (out-roll-Ker _), ap (λ (x : Ker-F Ker). is_end x.op) (out-roll-Ker _))

  pub guard_plain : (p : Place) (a : Ty) (k : Ker) → IsPlain (guard_of p a k)
  guard_plain p a k = by (may_assign (op_at k) || is_end (op_at k)) refl
    where
      by : (c : Bool) → (may_assign (op_at k) || is_end (op_at k)) ≡ c → IsPlain (if c then twice_negated p a k else k)
      by true q = negation_plain p a (negation p a k)
      by false q = (or_left (may_assign (op_at k)) (is_end (op_at k)) q, or_right (may_assign (op_at k)) (is_end (op_at k)) q)

  -- a guard as an operand
  held_told : (p : Place) (b : Bool) (t : TypedTree) (k : Ker) → SameNames t.tree k → IsPlain k → SameTold m (Guarded p t b) (Holds k)
  held_told p b t k h q = record { told = λ before. guard_reads before t k h q.0; ends = sym q.1; ended = sym q.1 }

  branch_told : (p : Place) (b : Bool) (t : TypedTree) (k : Ker) → SameNames t.tree k → IsPlain k → SameTold m (Guarded p t b) (Branch p k b)
  branch_told p true t k h q = record { told = λ before. guard_reads before t k h q.0; ends = refl; ended = sym q.1 }
  branch_told p false t k h q = record {
    told = λ before. ap (λ r. (record { assigns = None; among = None; reads = r }, before)) (same_reads t k h);
    ends = refl;
    ended = refl;
  }

  no_case_reads : (p : Place) (a : Ty) → job_reads [] ≡ kernel_reads (node p a ker.NoCase [] ∷ [])
  no_case_reads p a = λ z. λ m n q. sym (ap (λ b. b || false) (reads_has m (node p a ker.NoCase []) n q ∙ has-roll (is_read m n q) _)) z

  end_told : (p : Place) (a : Ty) → SameTold m (Unmatched p) (Holds (node p a ker.NoCase []))
  end_told p a = record {
    told = λ before.
        ap (λ r. (record { assigns = None; among = None; reads = r }, before)) (no_case_reads p a)
        ∙ ap (kernel_by m before (node p a ker.NoCase [])) (sym (at_tree m before p a ker.NoCase [] []));
    ends = sym (ap (λ (x : Ker-F Ker). is_end x.op) (out-roll-Ker _));
    ended = sym (ap (λ (x : Ker-F Ker). is_end x.op) (out-roll-Ker _));
  }

  pub step_told : {x : JobStep} {z : Step} → SameStep x z → SameTold m x z
  step_told (same_operand i ρ t k q h) = operand_told t k q h
  step_told (same_guard ρ p t b a k h) =
      branch_told p b t (guard_of p a k) (λ test. names_kept test h ∙ sym (guard_has test p a k)) (guard_plain p a k)
  step_told (guard_is_true ρ p t a k h) =
      held_told p true t (twice_negated p a k) (λ test. names_kept test h ∙ sym (twice_has test p a k)) (negation_plain p a (negation p a k))
  step_told (guard_is_false ρ p t a k h) =
      held_told p false t (negation p a k) (λ test. names_kept test h ∙ sym (negation_has test p a k)) (negation_plain p a k)
  step_told (same_choice ρ p xs zs h) = record {
    told = λ before. ap (λ r. (record { assigns = None; among = None; reads = r }, before)) (all_reads (job_sets xs) (sets zs) h);
    ends = refl;
    ended = refl;
  }
  step_told (same_end p a) = end_told p a
