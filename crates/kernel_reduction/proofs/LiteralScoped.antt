-- What is built as a literal binds and reads nothing.
use Rattle.std.proofs.Common.{◌≡◌, ℕ, true, false, List, [], ◌∷◌, ◌++◌, sym, ◌∙◌, Option, refl}
use Rattle.tla_values.specs.declared.value.Value.TheVariants as value
use Rattle.tla_meaning.specs.declared.actions.Assignable.{Assignable}
use Rattle.tla_meaning.specs.declared.expr.Expr.{Expr}
use Rattle.tla_meaning.specs.declared.op.Op.{Op}
use Rattle.tla_meaning.specs.declared.place.Place.{Place}
use Rattle.tla_meaning.proofs.Views.{false≢true}
use Rattle.snowcat_rows.specs.declared.types.Ty.{Ty}
use Rattle.kernel_trees.specs.declared.kernel.Ker.{Ker}
use Rattle.kernel_trees.specs.declared.kernel.KerOp.{KerOp}
use Rattle.kernel_trees.specs.declared.kernel.KerOp.TheVariants as ker
use Rattle.kernel_trees.specs.Scoped.{Names}
use Rattle.kernel_reduction.specs.Reduction.{Numbering}
use Rattle.kernel_reduction.specs.Builds.{is_same, is_binder, has_arm}
use Rattle.kernel_reduction.specs.BuildsTyped.{BuildsTyped, at_node, none_left, one_more, TypedNode, boolean, integer, text, same, binder, noted, except, cases, as_value}
use Rattle.kernel_reduction.specs.Rows.{tree, op_at, is_literal_op, nested_ifs}
use Rattle.kernel_reduction.proofs.LiteralRoots.{rooted, changed_rooted}
use Rattle.kernel_reduction.proofs.ScopedMade.{In, constant_in}

not_literal : (p : Place) (a : Ty) (o : KerOp) (ks : List Ker) (xs : List ℕ) → is_literal_op o ≡ false →
    is_literal_op (op_at (tree p a o ks xs)) ≡ true → ⊥
not_literal p a o ks xs h g = false≢true (sym (rooted (λ o. is_literal_op o ≡ false) p a o ks xs h) ∙ g)

same_no_literal : (o : KerOp) → is_same o ≡ true → is_literal_op o ≡ false
same_no_literal (ker.Const v) h = absurd (false≢true h)
same_no_literal o h = refl

binder_no_literal : (o : KerOp) → is_binder o ≡ true → is_literal_op o ≡ false
binder_no_literal (ker.Const v) h = absurd (false≢true h)
binder_no_literal o h = refl

arms_no_literal : (p : Place) (a : Ty) (ks : List Ker) → has_arm ks ≡ true →
    is_literal_op (op_at (nested_ifs p a ks)) ≡ true → ⊥
arms_no_literal p a [] h g = absurd (false≢true h)
arms_no_literal p a (k ∷ []) h g = absurd (false≢true h)
arms_no_literal p a (k ∷ l ∷ ks) h g = not_literal _ _ _ _ _ refl g

mutual
  pub literal_scoped : {i : Option Assignable} {ρ : Numbering} {e : Expr} {ts : List Ty} {k : Ker} {us : List Ty} →
      BuildsTyped i ρ e ts k us → is_literal_op (op_at k) ≡ true → (B : Names) → In B k
  literal_scoped (at_node i ρ e t ts k us d) h B = literal_node d h B

  literal_node : {i : Option Assignable} {ρ : Numbering} {p : Place} {t : Ty} {o : Op} {es : List Expr}
      {xs : List (List ℕ)} {ts : List Ty} {k : Ker} {us : List Ty} → TypedNode i ρ p t o es xs ts k us →
      is_literal_op (op_at k) ≡ true → (B : Names) → In B k
  literal_node (boolean ρ p t b xs ts) h B = constant_in p t (value.Bool b) B
  literal_node (integer ρ p t i xs ts) h B = constant_in p t (value.Int i) B
  literal_node (text ρ p t s xs ts) h B = constant_in p t (value.Text s) B
  literal_node (same ρ p t o ko es xs ks ts us e s c g) h B =
      absurd (not_literal p t ko ks [] (same_no_literal ko s) h)
  literal_node (binder ρ p t o ko es xs ks bs ns ts us vs e s f d1 d2) h B =
      absurd (not_literal p t ko (ks ++ bs) ns (binder_no_literal ko s) h)
  literal_node (noted i ρ p t x es xs k ts us (one_more _ _ e _ _ _ _ vs _ d (none_left _ _ _))) h B =
      literal_scoped d h B
  literal_node (except ρ p t cs e es x u n f d ds ts us vs pl le d1 d2) h B =
      absurd (false≢true (sym (changed_rooted (λ o. is_literal_op o ≡ false) refl p t d2 f) ∙ h))
  literal_node (cases ρ p t other es xs ks ts us a d) h B = absurd (arms_no_literal p t ks a h)
  literal_node (as_value m ρ p t o es xs k ts us e d) h B = literal_node d h B
  literal_node d h B = absurd (not_literal _ _ _ _ _ refl h)
