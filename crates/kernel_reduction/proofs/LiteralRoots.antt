-- What is built as a constant is a literal, through notes.
use Rattle.std.proofs.Common.{◌≡◌, ℕ, suc, true, List, [], ◌∷◌, ◌++◌, map, refl, sym, ap, subst, Option}
use Rattle.tla_values.specs.Order.{Layer}
use Rattle.tla_values.specs.declared.value.Value.{Value}
use Rattle.tla_values.specs.declared.value.Value.TheVariants as value
use Rattle.tla_values.specs.declared.value.Value.TheOpen as vlayer
use Rattle.tla_meaning.specs.declared.actions.Assignable.{Assignable}
use Rattle.tla_meaning.specs.declared.expr.Expr.{Expr, out-Expr}
use Rattle.tla_meaning.specs.declared.expr.Expr.TheFolds.{fold_out-Expr}
use Rattle.tla_meaning.specs.declared.op.Op.{Op}
use Rattle.tla_meaning.specs.declared.place.Place.{Place}
use Rattle.tla_meaning.proofs.Views.{false≢true}
use Rattle.snowcat_rows.specs.declared.types.Ty.{Ty}
use Rattle.snowcat_types.specs.declared.waiting.Index.{Index}
use Rattle.snowcat_types.specs.declared.waiting.Index.TheVariants as lit
use Rattle.snowcat_types.specs.Judgement.{sight_of}
use Rattle.snowcat_types.specs.declared.waiting.Sight.{Sight}
use Rattle.snowcat_types.specs.Waiting.{literal_of, second_literal}
use Rattle.kernel_trees.specs.declared.kernel.Ker.{Ker, out-roll-Ker}
use Rattle.kernel_trees.specs.declared.kernel.Ker.TheOpen.{Ker-F}
use Rattle.kernel_trees.specs.declared.kernel.KerOp.{KerOp}
use Rattle.kernel_trees.specs.declared.kernel.KerOp.TheVariants as ker
use Rattle.kernel_trees.specs.Sound.{literal_of as kernel_literal}
use Rattle.kernel_reduction.specs.Reduction.{Numbering}
use Rattle.kernel_reduction.specs.Builds.{is_same, is_binder, has_arm}
use Rattle.kernel_reduction.specs.BuildsTyped.{BuildsTyped, at_node, EachTyped, none_left, one_more, PathTyped, one_level, ChangesTyped, one_change, TypedNode, boolean, integer, text, same, binder, noted, except, cases, as_value}
use Rattle.kernel_reduction.specs.Rows.{tree, op_at, Level, Change, changed_at, changed, nested_ifs}

abbrev pub Tells : Layer Value → Index → Type 0
Tells (vlayer.Int i) z = z ≡ lit.Number i
Tells (vlayer.Text x) z = z ≡ lit.Word x
Tells v z = Unit {0}

-- what is said of an operator is said of the root that has it
pub rooted : (P : KerOp → Type 0) (p : Place) (a : Ty) (o : KerOp) (ks : List Ker) (xs : List ℕ) → P o →
    P (op_at (tree p a o ks xs))
rooted P p a o ks xs h =
    subst P
    (sym (ap (λ (x : Ker-F Ker). x.op) (out-roll-Ker (record { place = p; ty = a; op = o; args = ks; binds = xs })))) h

told : (p : Place) (a : Ty) (o : KerOp) (ks : List Ker) (xs : List ℕ) (z : Index) → Tells (kernel_literal o) z →
    Tells (kernel_literal (op_at (tree p a o ks xs))) z
told p a o ks xs z h = rooted (λ o. Tells (kernel_literal o) z) p a o ks xs h

-- ---- updates

module _ (P : KerOp → Type 0) (h : P ker.Update) (p : Place) (t : Ty) where
  levels_rooted : (f : Ker) (l : Level) (ls : List Level) (e : Ker) → P (op_at (changed_at p t f (l ∷ ls) e))
  levels_rooted f l [] e = rooted P p t ker.Update _ _ h
  levels_rooted f l (m ∷ ls) e = rooted P p t ker.Update _ _ h

  more_rooted : (f : Ker) (ls : List Level) (e : Ker) → P (op_at f) → P (op_at (changed_at p t f ls e))
  more_rooted f [] e g = g
  more_rooted f (l ∷ ls) e g = levels_rooted f l ls e

  others_rooted : (f : Ker) (ds : List Change) → P (op_at f) → P (op_at (changed p t f ds))
  others_rooted f [] g = g
  others_rooted f (d ∷ ds) g =
      others_rooted (changed_at p t f d.levels d.right) ds (more_rooted f d.levels d.right g)

  path_rooted : {ρ : Numbering} {x ns : List ℕ} {n : ℕ} {es : List Expr} {ts : List Ty} {ls : List Level} {k : Ker}
      {us : List Ty} → PathTyped ρ x ns (suc n) es ts ls k us → (f e : Ker) → P (op_at (changed_at p t f ls e))
  path_rooted (one_level _ _ _ _ _ _ l ls _ _ _ _ _ _) f e = levels_rooted f l ls e

  pub changed_rooted : {ρ : Numbering} {x ns cs : List ℕ} {es : List Expr} {ts : List Ty} {d : Change}
      {ds : List Change} {us : List Ty} → ChangesTyped ρ x ns cs es ts (d ∷ ds) us → (f : Ker) →
      P (op_at (changed p t f (d ∷ ds)))
  changed_rooted (one_change _ _ _ _ _ _ d ds _ _ _ g _) f =
      others_rooted (changed_at p t f d.levels d.right) ds (path_rooted g f d.right)

no_literal : (o : KerOp) → is_same o ≡ true → (z : Index) → Tells (kernel_literal o) z
no_literal (ker.Const v) h z = absurd (false≢true h)
no_literal o h z = tt

no_binder : (o : KerOp) → is_binder o ≡ true → (z : Index) → Tells (kernel_literal o) z
no_binder (ker.Const v) h z = absurd (false≢true h)
no_binder o h z = tt

two_or_more : (p : Place) (a : Ty) (ks : List Ker) (z : Index) → has_arm ks ≡ true →
    Tells (kernel_literal (op_at (nested_ifs p a ks))) z
two_or_more p a [] z h = absurd (false≢true h)
two_or_more p a (k ∷ []) z h = absurd (false≢true h)
two_or_more p a (g ∷ k ∷ ks) z h = told _ _ _ _ _ _ tt

seen : (e : Expr) → (sight_of e).literal ≡ literal_of (out-Expr e).op (map sight_of (out-Expr e).args)
seen e =
    ap (λ (s : Sight). s.literal)
    (fold_out-Expr Sight (λ x. record { place = x.place; literal = literal_of x.op x.args }) e)

mutual
  pub literal_tree : {i : Option Assignable} {ρ : Numbering} {e : Expr} {ts : List Ty} {k : Ker} {us : List Ty} →
      BuildsTyped i ρ e ts k us → Tells (kernel_literal (op_at k)) (sight_of e).literal
  literal_tree (at_node i ρ e t ts k us d) =
      subst (Tells (kernel_literal (op_at k))) (sym (seen e)) (literal_node d)

  literal_node : {i : Option Assignable} {ρ : Numbering} {p : Place} {t : Ty} {o : Op} {es : List Expr}
      {xs : List (List ℕ)} {ts : List Ty} {k : Ker} {us : List Ty} → TypedNode i ρ p t o es xs ts k us →
      Tells (kernel_literal (op_at k)) (literal_of o (map sight_of es))
  literal_node (boolean ρ p t b xs ts) =
      told p t (ker.Const (value.Bool b)) [] [] lit.NoLiteral (subst (λ l. Tells l lit.NoLiteral) (sym (value.outs-Bool b)) tt)
  literal_node (integer ρ p t i xs ts) =
      told p t (ker.Const (value.Int i)) [] [] (lit.Number i)
      (subst (λ l. Tells l (lit.Number i)) (sym (value.outs-Int i)) refl)
  literal_node (text ρ p t s xs ts) =
      told p t (ker.Const (value.Text s)) [] [] (lit.Word s)
      (subst (λ l. Tells l (lit.Word s)) (sym (value.outs-Text s)) refl)
  literal_node (same ρ p t o ko es xs ks ts us e h c g) = told p t ko ks [] _ (no_literal ko h _)
  literal_node (binder ρ p t o ko es xs ks bs ns ts us vs e h f d1 d2) =
      told p t ko (ks ++ bs) ns _ (no_binder ko h _)
  literal_node (noted i ρ p t x es xs k ts us (one_more _ _ e _ _ _ _ vs _ d (none_left _ _ _))) = literal_tree d
  literal_node (except ρ p t cs e es x u n f d ds ts us vs pl le d1 d2) =
      changed_rooted (λ o. Tells (kernel_literal o) lit.NoLiteral) tt p t d2 f
  literal_node (cases ρ p t other es xs ks ts us h d) = two_or_more p t ks _ h
  literal_node (as_value m ρ p t o es xs k ts us e d) = literal_node d
  literal_node d = told _ _ _ _ _ _ tt

pub second_told : {i : Option Assignable} {ρ : Numbering} {es : List Expr} {ts : List Ty} {k m : Ker} {us : List Ty} →
    EachTyped i ρ es ts (k ∷ m ∷ []) us → Tells (kernel_literal (op_at m)) (second_literal (map sight_of es))
second_told (one_more _ _ e _ _ _ _ vs _ d (one_more _ _ f _ _ _ _ ws _ g (none_left _ _ _))) = literal_tree g
