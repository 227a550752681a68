-- A form that is built has its infinite parts at the places of those of its expression.
use Rattle.std.proofs.Common.{◌≡◌, ℕ, true, List, [], ◌∷◌, ◌++◌, map, flat_map, refl, sym, ◌∙◌, ap, ap₂, Option}
use Rattle.tla_meaning.specs.declared.actions.Assignable.{Assignable}
use Rattle.tla_meaning.specs.declared.expr.Expr.{Expr, roll-Expr, out-Expr, roll-out-Expr}
use Rattle.tla_meaning.specs.declared.expr.Expr.TheOpen.{Expr-F}
use Rattle.tla_meaning.specs.declared.expr.Expr.TheFolds.{fold-roll-Expr}
use Rattle.tla_meaning.specs.declared.op.Op.{Op}
use Rattle.tla_meaning.specs.declared.place.Place.{Place}
use Rattle.tla_meaning.proofs.Views.{false≢true}
use Rattle.snowcat_rows.specs.declared.types.Ty.{Ty}
use Rattle.kernel_trees.specs.declared.kernel.Ker.{Ker, out-Ker, roll-out-Ker}
use Rattle.kernel_trees.specs.declared.kernel.KerOp.{KerOp}
use Rattle.kernel_trees.specs.declared.kernel.KerOp.TheVariants as ker
use Rattle.kernel_trees.specs.Sound.{infinite_at, infinite_places}
use Rattle.kernel_trees.specs.Trees.{op_of}
use Rattle.kernel_trees.proofs.SoundNodes.{infinite-roll}
use Rattle.kernel_reduction.specs.JobPaths.{infinite_form, infinite_form_at}
use Rattle.kernel_reduction.specs.Reduction.{Numbering}
use Rattle.kernel_reduction.specs.Builds.{Builds, BuildsEach, BuildsNode, at_node, none_left, one_more, same, binder, noted, except, cases, as_value, has_arm, is_same, is_binder}
use Rattle.kernel_reduction.specs.Rows.{nested_ifs, tree}
use Rattle.kernel_reduction.proofs.Roots.{first_changed}

pub form-roll : (x : Expr-F Expr) → infinite_form (roll-Expr x) ≡ infinite_form_at x.op x.place (map infinite_form x.args)
unfolding infinite_form
form-roll x = fold-roll-Expr (List Place) (λ x. infinite_form_at x.op x.place x.args) x

-- the same operator
same_at : (ko : KerOp) (p : Place) (ks : List (List Place)) → is_same ko ≡ true → infinite_form_at (op_of ko) p ks ≡ infinite_at ko p ks
same_at (ker.Const v) p ks h = absurd (false≢true h)
same_at ker.IntForm p ks h = refl
same_at ker.NatForm p ks h = refl
same_at ker.TextForm p ks h = refl
same_at ker.SeqForm p ks h = refl
same_at ker.Subsets p ks h = refl
same_at ker.Functions p ks h = refl
same_at (ker.RecForm xs) p ks h = refl
same_at ker.TupForm p ks h = refl
same_at ko p ks h = refl

binder_at : (ko : KerOp) (p q : Place) (ks ls : List (List Place)) → is_binder ko ≡ true → infinite_form_at (op_of ko) p ks ≡ infinite_at ko q ls
binder_at ker.Filter p q ks ls h = refl
binder_at ker.MapOver p q ks ls h = refl
binder_at ker.FunOf p q ks ls h = refl
binder_at ker.Some p q ks ls h = refl
binder_at ker.Every p q ks ls h = refl
binder_at ko p q ks ls h = absurd (false≢true h)

tree_at : (p : Place) (a : Ty) (ko : KerOp) (ks : List Ker) (xs : List ℕ) → infinite_places (tree p a ko ks xs) ≡ infinite_at ko p (map infinite_places ks)
tree_at p a ko ks xs = infinite-roll (record { place = p; ty = a; op = ko; args = ks; binds = xs })

-- an update is no form
update_at : (k : Ker) → (out-Ker k).op ≡ ker.Update → infinite_places k ≡ []
update_at k h =
    ap infinite_places (sym (roll-out-Ker k)) ∙ infinite-roll (out-Ker k)
    ∙ ap (λ o. infinite_at o (out-Ker k).place (map infinite_places (out-Ker k).args)) h

one_list : (xs : List Place) → xs ++ [] ≡ xs
one_list [] = refl
one_list (x ∷ xs) = ap (λ ys. x ∷ ys) (one_list xs)

-- a CASE with an arm is an IF
arms_kept : (p : Place) (a : Ty) (ks : List Ker) → has_arm ks ≡ true → [] ≡ infinite_places (nested_ifs p a ks)
arms_kept p a [] h = absurd (false≢true h)
arms_kept p a (k ∷ []) h = absurd (false≢true h)
arms_kept p a (g ∷ k ∷ ks) h = sym (infinite-roll _)

mutual
  pub infinite_kept : {i : Option Assignable} {ρ : Numbering} {e : Expr} {k : Ker} → Builds i ρ e k → infinite_form e ≡ infinite_places k
  infinite_kept (at_node i ρ e k h) = ap infinite_form (sym (roll-out-Expr e)) ∙ form-roll (out-Expr e) ∙ node_kept h

  each_kept : {i : Option Assignable} {ρ : Numbering} {es : List Expr} {ks : List Ker} → BuildsEach i ρ es ks → map infinite_form es ≡ map infinite_places ks
  each_kept (none_left i ρ) = refl
  each_kept (one_more i ρ e k es ks h g) = ap₂ (λ (x : List Place) (xs : List (List Place)). x ∷ xs) (infinite_kept h) (each_kept g)

  node_kept : {i : Option Assignable} {ρ : Numbering} {p : Place} {o : Op} {es : List Expr} {xs : List (List ℕ)} {k : Ker} →
      BuildsNode i ρ p o es xs k → infinite_form_at o p (map infinite_form es) ≡ infinite_places k
  node_kept (same ρ p o ko es xs a ks e h g) =
      ap (λ q. infinite_form_at q p (map infinite_form es)) (sym e) ∙ same_at ko p (map infinite_form es) h
      ∙ ap (infinite_at ko p) (each_kept g) ∙ sym (tree_at p a ko ks [])
  node_kept (binder ρ p o ko es xs a ks bs ns e h f g r) =
      ap (λ q. infinite_form_at q p (map infinite_form es)) (sym e) ∙ binder_at ko p p (map infinite_form es) (map infinite_places (ks ++ bs)) h
      ∙ sym (tree_at p a ko (ks ++ bs) ns)
  node_kept (noted i ρ p x es xs k g) = ap (flat_map (λ q. q)) (each_kept g) ∙ one_list (infinite_places k)
  node_kept (except ρ p cs e es x a f u us h z g r) = sym (update_at _ (first_changed p a f r).1)
  node_kept (cases ρ p other es xs a ks h g) = arms_kept p a ks h
  node_kept (as_value m ρ p o es xs k z h) = node_kept h
  node_kept h = sym (infinite-roll _)
