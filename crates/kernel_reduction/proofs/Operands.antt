-- What is built as a value is one operand of an action: no path goes into it.
use Rattle.std.proofs.Common.{◌≡◌, ℕ, Bool, true, false, ◌||◌, List, [], ◌∷◌, ◌++◌, map, true≢false, refl, sym, ◌∙◌, ap, ap₂, Option, None, if◌then◌else◌}
use Rattle.std.specs.List.{list_any}
use Rattle.tla_meaning.specs.declared.actions.Assignable.{Assignable}
use Rattle.tla_meaning.specs.declared.expr.Expr.{Expr}
use Rattle.tla_meaning.specs.declared.op.Op.{Op}
use Rattle.tla_meaning.specs.declared.op.Op.TheVariants as op
use Rattle.tla_meaning.specs.declared.place.Place.{Place}
use Rattle.tla_meaning.specs.Actions.{counts}
use Rattle.tla_meaning.proofs.Views.{false≢true}
use Rattle.snowcat_rows.specs.declared.types.Ty.{Ty}
use Rattle.kernel_trees.specs.declared.kernel.Ker.{Ker, out-Ker, out-roll-Ker, roll-out-Ker}
use Rattle.kernel_trees.specs.declared.kernel.Ker.TheOpen.{Ker-F}
use Rattle.kernel_trees.specs.declared.kernel.KerOp.{KerOp}
use Rattle.kernel_trees.specs.declared.kernel.KerOp.TheVariants as ker
use Rattle.kernel_trees.specs.Paths.{Marks, Holds, Parted, any_mentions, if_ways, mentions, mentions_at, ways, ways_of}
use Rattle.kernel_trees.specs.Trees.{op_of}
use Rattle.kernel_trees.specs.Ways.{alone}
use Rattle.kernel_trees.proofs.LawOfPaths.{ways-roll}
use Rattle.kernel_trees.proofs.Nodes.{is_leaf}
use Rattle.kernel_trees.proofs.Trees.{mentions-roll}
use Rattle.kernel_reduction.specs.JobPaths.{has_name, has_name_at}
use Rattle.kernel_reduction.specs.Reduction.{Numbering, any_mentioned}
use Rattle.kernel_reduction.specs.Builds.{BuildsEach, BuildsNode, none_left, one_more, same, binder, noted, except, cases, has_arm, is_same, is_binder, passes_on}
use Rattle.kernel_reduction.specs.Rows.{nested_ifs, node, op_at, tree}
use Rattle.kernel_reduction.proofs.KernelNames.{mentions_has}
use Rattle.kernel_reduction.proofs.Mentioned.{mentioned_is}
use Rattle.kernel_reduction.proofs.NamesKept.{node_names}
use Rattle.kernel_reduction.proofs.Roots.{first_changed}

-- ---- one operand

abbrev pub beside : Marks → Ker → Parted
beside m k = (k, ways m k)

ways_at : (m : Marks) (k : Ker) → ways m k ≡ ways_of m (out-Ker k).op k (out-Ker k).place (out-Ker k).binds (map (beside m) (out-Ker k).args)
ways_at m k =
    ap (ways m) (sym (roll-out-Ker k)) ∙ ways-roll m (out-Ker k)
    ∙ ap (λ z. ways_of m (out-Ker k).op z (out-Ker k).place (out-Ker k).binds (map (beside m) (out-Ker k).args)) (roll-out-Ker k)

pub any_beside : (m : Marks) (ks : List Ker) → any_mentions m (map (beside m) ks) ≡ list_any (λ b. b) (map (mentions m) ks)
any_beside m [] = refl
any_beside m (k ∷ ks) = ap (λ b. mentions m k || b) (any_beside m ks)

pub mentions_out : (m : Marks) (k : Ker) → mentions m k ≡ mentions_at m (out-Ker k).op (map (mentions m) (out-Ker k).args)
mentions_out m k = ap (mentions m) (sym (roll-out-Ker k)) ∙ mentions-roll m (out-Ker k)

single : (m : Marks) (k : Ker) → is_leaf (op_at k) ≡ true → ways m k ≡ alone (Holds k)
single m k h = ways_at m k ∙ by (out-Ker k).op (out-Ker k).place (out-Ker k).binds (map (beside m) (out-Ker k).args) h
  where
    by : (o : KerOp) (p : Place) (xs : List ℕ) (ks : List Parted) → is_leaf o ≡ true → ways_of m o k p xs ks ≡ alone (Holds k)
    by ker.And p xs ks h = absurd (false≢true h)
    by ker.Or p xs ks h = absurd (false≢true h)
    by ker.If p xs ks h = absurd (false≢true h)
    by ker.Some p xs ks h = absurd (false≢true h)
    by o p xs ks h = refl

-- an IF that holds no name that counts
unmentioned_if : (m : Marks) (k : Ker) → op_at k ≡ ker.If → mentions m k ≡ false → ways m k ≡ alone (Holds k)
unmentioned_if m k q h =
    ways_at m k
    ∙ ap (λ o. ways_of m o k (out-Ker k).place (out-Ker k).binds (map (beside m) (out-Ker k).args)) q
    ∙ ap (λ b. if b then if_ways k (out-Ker k).place (map (beside m) (out-Ker k).args) else alone (Holds k))
    (any_beside m (out-Ker k).args ∙ sym (ap (λ o. mentions_at m o (map (mentions m) (out-Ker k).args)) q) ∙ sym (mentions_out m k) ∙ h)

-- a tree into which no path goes
pub data IsOperand (m : Marks) (k : Ker) : Type 0 where
  leaf : is_leaf (op_at k) ≡ true → IsOperand m k
  unmentioned : op_at k ≡ ker.If → mentions m k ≡ false → IsOperand m k

pub operand_ways : {m : Marks} {k : Ker} → IsOperand m k → ways m k ≡ alone (Holds k)
operand_ways {m = m} {k = k} (leaf h) = single m k h
operand_ways {m = m} {k = k} (unmentioned q h) = unmentioned_if m k q h

leaf_tree : {m : Marks} (p : Place) (a : Ty) (ko : KerOp) (ks : List Ker) (xs : List ℕ) → is_leaf ko ≡ true → IsOperand m (tree p a ko ks xs)
leaf_tree p a ko ks xs h = leaf (ap (λ (x : Ker-F Ker). is_leaf x.op) (out-roll-Ker _) ∙ h)

module _ (m : Assignable) where
  abbrev M : Marks
  M = counts m

  abbrev counted : ℕ → Bool → Place → Bool
  counted i primed p = counts m i primed

  pub any_names : (es : List Expr) → list_any (λ b. b) (map (has_name counted) es) ≡ any_mentioned m es
  any_names [] = refl
  any_names (e ∷ es) = ap₂ (λ (a b : Bool). a || b) (sym (mentioned_is m e)) (any_names es)

  abbrev holds_by_children : Op → Bool
  holds_by_children (op.Name i primed) = false
  holds_by_children o = true

  pub mentions_node : {i : Option Assignable} {ρ : Numbering} {p : Place} {o : Op} {es : List Expr} {xs : List (List ℕ)} {k : Ker} →
      holds_by_children o ≡ true → BuildsNode i ρ p o es xs k → mentions M k ≡ any_mentioned m es
  mentions_node {p = p} {o = o} {es = es} {k = k} q h =
      mentions_has M k ∙ sym (node_names counted h) ∙ by o (map (has_name counted) es) q ∙ any_names es
    where
      by : (o : Op) (bs : List Bool) → holds_by_children o ≡ true → has_name_at counted p o bs ≡ list_any (λ b. b) bs
      by (op.Name i primed) bs h = absurd (false≢true h)
      by o bs h = refl

  -- ---- what is built as a value

  same_value : {p : Place} {es : List Expr} {xs : List (List ℕ)} {ρ : Numbering} (a : Ty) (ko : KerOp) (ks : List Ker) → is_same ko ≡ true → passes_on m (op_of ko) es ≡ false →
      BuildsNode None ρ p (op_of ko) es xs (node p a ko ks) → IsOperand M (node p a ko ks)
  same_value a (ker.Const v) ks h q b = absurd (false≢true h)
  same_value a ker.And ks h q b = absurd (true≢false q)
  same_value a ker.Or ks h q b = absurd (true≢false q)
  same_value a ker.If ks h q b =
      unmentioned (ap (λ (x : Ker-F Ker). x.op) (out-roll-Ker _)) (mentions_node refl b ∙ q)
  same_value a ker.Some ks h q b = absurd (false≢true h)
  same_value {p = p} a ko ks h q b = leaf_tree p a ko ks [] refl

  binder_value : (p : Place) (es : List Expr) (a : Ty) (ko : KerOp) (ks : List Ker) (ns : List ℕ) → is_binder ko ≡ true → passes_on m (op_of ko) es ≡ false →
      IsOperand M (tree p a ko ks ns)
  binder_value p es a ker.Filter ks ns h q = leaf_tree p a ker.Filter ks ns refl
  binder_value p es a ker.MapOver ks ns h q = leaf_tree p a ker.MapOver ks ns refl
  binder_value p es a ker.FunOf ks ns h q = leaf_tree p a ker.FunOf ks ns refl
  binder_value p es a ker.Every ks ns h q = leaf_tree p a ker.Every ks ns refl
  binder_value p es a ker.Some ks ns h q = absurd (true≢false q)
  binder_value p es a ko ks ns h q = absurd (false≢true h)

  nested_root : {i : Option Assignable} {ρ : Numbering} {es : List Expr} {ks : List Ker} (p : Place) (a : Ty) → has_arm ks ≡ true → BuildsEach i ρ es ks →
      op_at (nested_ifs p a ks) ≡ ker.If
  nested_root p a h (none_left i ρ) = absurd (false≢true h)
  nested_root p a h (one_more i ρ e k es ks b (none_left _ _)) = absurd (false≢true h)
  nested_root p a h (one_more i ρ e k es ks b (one_more _ _ f l fs ls c g)) = ap (λ (x : Ker-F Ker). x.op) (out-roll-Ker _)

  pub value_root : {ρ : Numbering} {p : Place} {o : Op} {es : List Expr} {xs : List (List ℕ)} {k : Ker} → BuildsNode None ρ p o es xs k → passes_on m o es ≡ false →
      IsOperand M k
  value_root (same ρ p o ko es xs a ks e h g) q =
      same_value a ko ks h (ap (λ z. passes_on m z es) e ∙ q) (same ρ p (op_of ko) ko es xs a ks refl h g)
  value_root (binder ρ p o ko es xs a ks bs ns e h f g r) q = binder_value p es a ko (ks ++ bs) ns h (ap (λ z. passes_on m z es) e ∙ q)
  value_root (noted i ρ p x es xs k g) q = absurd (true≢false q)
  value_root (except ρ p cs e es x a f u us h z g r) q = leaf (ap is_leaf (first_changed p a f r).1)
  value_root (cases ρ p other es xs a ks h g) q =
      unmentioned (nested_root p a h g) (mentions_node refl (cases ρ p other es xs a ks h g) ∙ q)
  value_root h q = leaf_tree _ _ _ _ _ refl
