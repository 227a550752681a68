-- The root of what is built: its place, and which names and literals stand there.
use Rattle.std.proofs.Common.{◌≡◌, ℕ, Bool, true, false, List, [], ◌∷◌, ◌++◌, map, true≢false, refl, sym, ◌∙◌, ap, subst, Option, None}
use Rattle.tla_values.specs.Order.{Layer}
use Rattle.tla_values.specs.declared.value.Value.{Value, out-Value}
use Rattle.tla_values.specs.declared.value.Value.TheVariants as value
use Rattle.tla_values.specs.declared.value.Value.TheOpen as layer
use Rattle.tla_meaning.specs.declared.actions.Assignable.{Assignable}
use Rattle.tla_meaning.specs.declared.expr.Expr.{Expr, out-Expr, roll-out-Expr}
use Rattle.tla_meaning.specs.declared.op.Op.{Op}
use Rattle.tla_meaning.specs.declared.op.Op.TheVariants as op
use Rattle.tla_meaning.specs.declared.place.Place.{Place}
use Rattle.tla_meaning.proofs.Views.{false≢true}
use Rattle.snowcat_rows.specs.declared.types.Ty.{Ty}
use Rattle.kernel_trees.specs.declared.kernel.Ker.{Ker, out-Ker, out-roll-Ker}
use Rattle.kernel_trees.specs.declared.kernel.Ker.TheOpen.{Ker-F}
use Rattle.kernel_trees.specs.declared.kernel.KerOp.{KerOp}
use Rattle.kernel_trees.specs.declared.kernel.KerOp.TheVariants as ker
use Rattle.kernel_trees.specs.Paths.{Marks, is_end, is_false}
use Rattle.kernel_trees.specs.Assignments.{target}
use Rattle.kernel_trees.specs.Trees.{constant, op_of}
use Rattle.kernel_reduction.specs.JobPaths.{below_notes, below_of, is_false_op, job_target}
use Rattle.kernel_reduction.specs.Reduction.{Numbering}
use Rattle.kernel_reduction.specs.Rows.{Change, Level, changed, changed_at, is_nil, may_assign, nested_ifs, tree}
use Rattle.kernel_reduction.specs.Builds.{Builds, BuildsEach, BuildsChanges, BuildsNode, at_node, none_left, one_more, no_changes, one_change, boolean, integer, text, declared, same, binder, noted, assign, except, cases, as_value, has_arm, is_same, is_binder}
use Rattle.kernel_reduction.specs.inner.Steps.{is_note}
use Rattle.kernel_reduction.proofs.JobTrees.{below-roll}
use Rattle.kernel_reduction.proofs.NamesKept.{path_names}

-- ---- operators at a root

-- neither a name nor a truth value, nor what may assign
abbrev pub is_other : Op → Bool
is_other (op.Name i primed) = false
is_other (op.Bool b) = false
is_other op.Eq = false
is_other op.Assign = false
is_other op.In = false
is_other (op.Noted x) = false
is_other o = true

abbrev pub is_other_value : Layer Value → Bool
is_other_value (layer.Bool b) = false
is_other_value l = true

abbrev pub is_other_kernel : KerOp → Bool
is_other_kernel (ker.Name i primed) = false
is_other_kernel (ker.Const v) = is_other_value (out-Value v)
is_other_kernel ker.Equal = false
is_other_kernel ker.Member = false
is_other_kernel ker.NoCase = false
is_other_kernel o = true

pub data SameRoot : Op → KerOp → Type 0 where
  a_name : (i : ℕ) (primed : Bool) → SameRoot (op.Name i primed) (ker.Name i primed)
  a_truth : (b : Bool) → SameRoot (op.Bool b) (ker.Const (value.Bool b))
  an_equation : SameRoot op.Eq ker.Equal
  an_assignment : SameRoot op.Assign ker.Equal
  a_membership : SameRoot op.In ker.Member
  another : (o : Op) (k : KerOp) → is_other o ≡ true → is_other_kernel k ≡ true → SameRoot o k

-- where a tree begins so
pub record Rooted (p : Place) (o : Op) (k : Ker) : Type 0 where
  pub place : (out-Ker k).place ≡ p
  pub root : SameRoot o (out-Ker k).op

rooted : (p : Place) (a : Ty) (ko : KerOp) (ks : List Ker) (xs : List ℕ) (o : Op) → SameRoot o ko → Rooted p o (tree p a ko ks xs)
rooted p a ko ks xs o h = record {
  place = ap (λ (x : Ker-F Ker). x.place) (out-roll-Ker _);
  root = subst (SameRoot o) (sym (ap (λ (x : Ker-F Ker). x.op) (out-roll-Ker (record { place = p; ty = a; op = ko; args = ks; binds = xs })))) h;
}

same_root : (ko : KerOp) → is_same ko ≡ true → SameRoot (op_of ko) ko
same_root (ker.Const v) h = absurd (false≢true h)
same_root (ker.Name i primed) h = absurd (false≢true h)
same_root ker.Range h = absurd (false≢true h)
same_root ker.NoCase h = absurd (false≢true h)
same_root ker.Equal h = an_equation
same_root ker.Member h = a_membership
same_root ko h = another (op_of ko) ko refl refl

binder_root : (ko : KerOp) → is_binder ko ≡ true → SameRoot (op_of ko) ko
binder_root ker.Filter h = another op.Filter ker.Filter refl refl
binder_root ker.MapOver h = another op.MapTo ker.MapOver refl refl
binder_root ker.FunOf h = another op.Lambda ker.FunOf refl refl
binder_root ker.Some h = another op.Exists ker.Some refl refl
binder_root ker.Every h = another op.Forall ker.Every refl refl
binder_root ko h = absurd (false≢true h)

-- updates behind each other, and ifs inside each other
abbrev pub Updates : Place → Ker → Type 0
Updates p k = ((out-Ker k).place ≡ p) × ((out-Ker k).op ≡ ker.Update)

changed_at_root : (p : Place) (a : Ty) (f : Ker) (ls : List Level) (e : Ker) → is_nil ls ≡ false → Updates p (changed_at p a f ls e)
changed_at_root p a f [] e h = absurd (true≢false h)
changed_at_root p a f (l ∷ []) e h = (ap (λ (x : Ker-F Ker). x.place) (out-roll-Ker _), ap (λ (x : Ker-F Ker). x.op) (out-roll-Ker _))
changed_at_root p a f (l ∷ m ∷ ls) e h = (ap (λ (x : Ker-F Ker). x.place) (out-roll-Ker _), ap (λ (x : Ker-F Ker). x.op) (out-roll-Ker _))

changed_root : {ρ : Numbering} {x : List ℕ} {ns : List ℕ} {es : List Expr} {us : List Change} (p : Place) (a : Ty) (f : Ker) → Updates p f → BuildsChanges ρ x ns es us →
    Updates p (changed p a f us)
changed_root p a f h (no_changes ρ x) = h
changed_root p a f h (one_change ρ x n ns es u us b g) =
    changed_root p a (changed_at p a f u.levels u.right) (changed_at_root p a f u.levels u.right (path_names (λ i b p. false) b).1) g

pub first_changed : {ρ : Numbering} {x : List ℕ} {ns : List ℕ} {es : List Expr} {u : Change} {us : List Change} (p : Place) (a : Ty) (f : Ker) → BuildsChanges ρ x ns es (u ∷ us) →
    Updates p (changed p a f (u ∷ us))
first_changed p a f (one_change ρ x n ns es u us b g) =
    changed_root p a (changed_at p a f u.levels u.right) (changed_at_root p a f u.levels u.right (path_names (λ i b p. false) b).1) g

update_root : {p : Place} {o : Op} {k : Ker} → is_other o ≡ true → Updates p k → Rooted p o k
update_root {o = o} {k = k} h u = record { place = u.0; root = another o (out-Ker k).op h (ap is_other_kernel u.1) }

two_or_more : {ρ : Numbering} {i : Option Assignable} {es : List Expr} {ks : List Ker} (p : Place) (a : Ty) (other : Bool) → has_arm ks ≡ true → BuildsEach i ρ es ks →
    Rooted p (op.Case other) (nested_ifs p a ks)
two_or_more p a other h (none_left i ρ) = absurd (false≢true h)
two_or_more p a other h (one_more i ρ e k es ks b (none_left _ _)) = absurd (false≢true h)
two_or_more p a other h (one_more i ρ e k es ks b (one_more _ _ f l fs ls c g)) = rooted _ _ _ _ _ _ (another (op.Case other) ker.If refl refl)

-- ---- trees

pub root_of : {i : Option Assignable} {ρ : Numbering} {p : Place} {o : Op} {es : List Expr} {xs : List (List ℕ)} {k : Ker} →
    BuildsNode i ρ p o es xs k → is_note o ≡ false → Rooted p o k
root_of (boolean ρ p b xs a) q = rooted _ _ _ _ _ _ (a_truth b)
root_of (integer ρ p n xs a) q = rooted _ _ _ _ _ _ (another (op.Int n) (ker.Const (value.Int n)) refl (ap is_other_value (value.outs-Int n)))
root_of (text ρ p s xs a) q = rooted _ _ _ _ _ _ (another (op.Str s) (ker.Const (value.Text s)) refl (ap is_other_value (value.outs-Text s)))
root_of (declared ρ p n primed es xs a) q = rooted _ _ _ _ _ _ (a_name n primed)
root_of (same ρ p o ko es xs a ks e h g) q = subst (λ z. Rooted p z (tree p a ko ks [])) e (rooted p a ko ks [] (op_of ko) (same_root ko h))
root_of (binder ρ p o ko es xs a ks bs ns e h f g r) q = subst (λ z. Rooted p z (tree p a ko (ks ++ bs) ns)) e (rooted p a ko (ks ++ bs) ns (op_of ko) (binder_root ko h))
root_of (noted i ρ p x es xs k g) q = absurd (true≢false q)
root_of (assign ρ p es xs a ks g) q = rooted _ _ _ _ _ _ an_assignment
root_of (except ρ p cs e es x a f u us h z g r) q = update_root refl (first_changed p a f r)
root_of (cases ρ p other es xs a ks h g) q = two_or_more p a other h g
root_of (as_value m ρ p o es xs k z h) q = root_of h q
root_of h q = rooted _ _ _ _ _ _ (another _ _ refl refl)

abbrev pub root_op : Expr → Op
root_op e = (out-Expr (below_notes e)).op

below_is : (e : Expr) → below_notes e ≡ below_of (out-Expr e).op e (map below_notes (out-Expr e).args)
below_is e =
    ap below_notes (sym (roll-out-Expr e))
    ∙ below-roll (out-Expr e)
    ∙ ap (λ z. below_of (out-Expr e).op z (map below_notes (out-Expr e).args)) (roll-out-Expr e)

no_note : (o : Op) (self : Expr) (ks : List Expr) → is_note o ≡ false → below_of o self ks ≡ self
no_note (op.Noted x) self ks h = absurd (true≢false h)
no_note o self ks h = refl

pub below_itself : (e : Expr) → is_note (out-Expr e).op ≡ false → below_notes e ≡ e
below_itself e h = below_is e ∙ no_note (out-Expr e).op e (map below_notes (out-Expr e).args) h

not_constant : (l : Layer Value) → is_note (constant l) ≡ false
not_constant (layer.Bool b) = refl
not_constant (layer.Int i) = refl
not_constant (layer.Text a) = refl
not_constant (layer.Set vs) = refl
not_constant (layer.Fun ps) = refl

not_note : (ko : KerOp) → is_note (op_of ko) ≡ false
not_note (ker.Const v) = not_constant (out-Value v)
not_note ko = refl

abbrev RootedTree : Expr → Ker → Type 0
RootedTree e k = Rooted (out-Expr e).place (out-Expr e).op k

by_note : (e : Expr) (k : Ker) (b : Bool) → is_note (out-Expr e).op ≡ b → (is_note (out-Expr e).op ≡ false → RootedTree e k) →
    (is_note (out-Expr e).op ≡ true → RootedTree (below_of (out-Expr e).op e (map below_notes (out-Expr e).args)) k) → RootedTree (below_notes e) k
by_note e k false q f g = subst (λ z. RootedTree z k) (sym (below_itself e q)) (f q)
by_note e k true q f g = subst (λ z. RootedTree z k) (sym (below_is e)) (g q)

-- a tree, below its annotations
mutual
  pub tree_root : {i : Option Assignable} {ρ : Numbering} {e : Expr} {k : Ker} → Builds i ρ e k → RootedTree (below_notes e) k
  tree_root (at_node i ρ e k h) = by_note e k (is_note (out-Expr e).op) refl (root_of h) (note_root e h)

  note_root : {i : Option Assignable} {ρ : Numbering} {p : Place} {o : Op} {es : List Expr} {xs : List (List ℕ)} {k : Ker} (self : Expr) →
      BuildsNode i ρ p o es xs k → is_note o ≡ true → RootedTree (below_of o self (map below_notes es)) k
  note_root self (noted i ρ p x es xs k g) q = first_root self x g
  note_root self (same ρ p o ko es xs a ks e h g) q = absurd (false≢true (sym (not_note ko) ∙ ap is_note e ∙ q))
  note_root self (binder ρ p o ko es xs a ks bs ns e h f g r) q = absurd (false≢true (sym (not_note ko) ∙ ap is_note e ∙ q))
  note_root self (as_value m ρ p o es xs k z h) q = note_root self h q
  note_root self h q = absurd (false≢true q)

  first_root : {i : Option Assignable} {ρ : Numbering} {es : List Expr} {k : Ker} (self : Expr) (x : List ℕ) → BuildsEach i ρ es (k ∷ []) →
      RootedTree (below_of (op.Noted x) self (map below_notes es)) k
  first_root self x (one_more i ρ e k es ks h g) = tree_root h

-- ---- what is asked of a root

-- the name that may be assigned at a left side
pub same_target : (m : Marks) (before : List ℕ) {o : Op} {k : KerOp} → SameRoot o k → job_target m before o ≡ target m before k
same_target m before (a_name i primed) = refl
same_target m before (a_truth b) = refl
same_target m before an_equation = refl
same_target m before an_assignment = refl
same_target m before a_membership = refl
same_target m before (another o k f g) = no_target o f ∙ sym (no_kernel_target k g)
  where
    no_target : (o : Op) → is_other o ≡ true → job_target m before o ≡ None
    no_target (op.Name i primed) h = absurd (false≢true h)
    no_target o h = refl

    no_kernel_target : (k : KerOp) → is_other_kernel k ≡ true → target m before k ≡ None
    no_kernel_target (ker.Name i primed) h = absurd (false≢true h)
    no_kernel_target k h = refl

-- whether it is FALSE
pub same_end_at : {o : Op} {k : KerOp} → SameRoot o k → is_false_op o ≡ is_end k
same_end_at (a_name i primed) = refl
same_end_at (a_truth b) = sym (ap is_false (value.outs-Bool b))
same_end_at an_equation = refl
same_end_at an_assignment = refl
same_end_at a_membership = refl
same_end_at (another o k f g) = no_end o f ∙ sym (no_kernel_end k g)
  where
    no_end : (o : Op) → is_other o ≡ true → is_false_op o ≡ false
    no_end (op.Bool b) h = absurd (false≢true h)
    no_end o h = refl

    not_false : (l : Layer Value) → is_other_value l ≡ true → is_false l ≡ false
    not_false (layer.Bool b) h = absurd (false≢true h)
    not_false l h = refl

    no_kernel_end : (k : KerOp) → is_other_kernel k ≡ true → is_end k ≡ false
    no_kernel_end (ker.Const v) h = not_false (out-Value v) h
    no_kernel_end ker.NoCase h = absurd (false≢true h)
    no_kernel_end k h = refl

-- whether it may assign
abbrev pub is_assigning : Op → Bool
is_assigning op.Eq = true
is_assigning op.Assign = true
is_assigning op.In = true
is_assigning o = false

pub same_assigning : {o : Op} {k : KerOp} → SameRoot o k → is_assigning o ≡ may_assign k
same_assigning (a_name i primed) = refl
same_assigning (a_truth b) = refl
same_assigning an_equation = refl
same_assigning an_assignment = refl
same_assigning a_membership = refl
same_assigning (another o k f g) = none o f ∙ sym (no_kernel k g)
  where
    none : (o : Op) → is_other o ≡ true → is_assigning o ≡ false
    none op.Eq h = absurd (false≢true h)
    none op.Assign h = absurd (false≢true h)
    none op.In h = absurd (false≢true h)
    none o h = refl

    no_kernel : (k : KerOp) → is_other_kernel k ≡ true → may_assign k ≡ false
    no_kernel ker.Equal h = absurd (false≢true h)
    no_kernel ker.Member h = absurd (false≢true h)
    no_kernel k h = refl
