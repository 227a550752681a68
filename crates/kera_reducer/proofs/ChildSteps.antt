-- The children of a node, one after the other, and the node that is made of them.
use Rattle.std.proofs.Common.{◌≡◌, ℕ, suc, ◌+◌, ◌<◌, ◌≤◌, List, [], ◌∷◌, ◌++◌, length, map, take, get_or, refl, sym, ◌∙◌, ap, ap₂, subst, Option, arith}
use Rattle.tla_meaning.specs.declared.actions.Assignable.{Assignable}
use Rattle.tla_meaning.specs.declared.expr.Expr.{Expr, out-Expr}
use Rattle.snowcat_rows.specs.declared.types.Ty.{Ty}
use Rattle.kernel_trees.specs.declared.kernel.Ker.{Ker}
use Rattle.kera_reducer.specs.declared.making.Made.{Made}
use Rattle.kernel_reduction.specs.BuildsTyped.{BuildsTyped, TypedNode, at_node}
use Rattle.kernel_reduction.specs.inner.Settings.{AreBuilt, counted, names_at, passing, position_at, positions, scopes}
use Rattle.kera_reducer.specs.inner.Standing.{AllChildren, Makes, NodeTyped, TreeTyped}
use Rattle.kera_reducer.proofs.Children.{next_built}
use Rattle.kernel_reduction.proofs.Lengths.{cons_first, cons_rest}
use Rattle.kernel_reduction.proofs.Listing.{take_all}

-- these are the first children of the node
abbrev pub FirstChildren : Option Assignable → List (List ℕ) → Expr → List Expr → List Ty → List Ker → List Ty → Type 0
FirstChildren i names e es ts ks us =
    AreBuilt (positions i (out-Expr e).op (out-Expr e).args (out-Expr e).binds)
    (scopes names (out-Expr e).op (out-Expr e).binds) 0 es ts ks us

module _ (i : Option Assignable) (names : List (List ℕ)) (e : Expr) (args : List Expr) (n : ℕ) (ts : List Ty)
    (ks : List Ker) (us : List Ty) (is : args ≡ (out-Expr e).args) where
  pub next_child : (kid : Expr) (k : Ker) (vs : List Ty) (inside : List (List ℕ)) (p : Option Assignable) →
      n < length args → kid ≡ get_or args n kid → inside ≡ names ++ names_at (out-Expr e).op (out-Expr e).binds n →
      p ≡ position_at i (out-Expr e).op (length (out-Expr e).binds) (length args) n →
      FirstChildren i names e (take n args) ts ks us → TreeTyped p inside kid us k vs →
      FirstChildren i names e (take (n + 1) args) ts (ks ++ k ∷ []) vs
  next_child kid k vs inside p lt at w q h d =
      next_built (positions i (out-Expr e).op (out-Expr e).args (out-Expr e).binds)
      (scopes names (out-Expr e).op (out-Expr e).binds) args n kid ts ks us k vs lt at h
      (subst (λ z. BuildsTyped z (counted (scopes names (out-Expr e).op (out-Expr e).binds n)) kid us k vs)
      (q ∙ ap (λ z. position_at i (out-Expr e).op (length (out-Expr e).binds) (length z) n) is)
      (subst (λ z. BuildsTyped p (counted z) kid us k vs) w d))

  pub all_children : length args ≤ n → FirstChildren i names e (take n args) ts ks us → AllChildren i names e ts ks us
  all_children le h = subst (λ z. FirstChildren i names e z ts ks us) (take_all args n le ∙ is) h

-- ---- names are cut back

pub cut_back : {X : Type 0} (f : X → List ℕ) (xs ys : List X) (more : List (List ℕ)) → map f ys ≡ map f xs ++ more →
    map f (take (length xs) ys) ≡ map f xs
cut_back f [] ys more h = refl
cut_back f (x ∷ xs) [] more h =
    absurd (let e : 0 ≡ suc (length (map f xs ++ more)) = ap length h in omega (arith, e))
cut_back f (x ∷ xs) (y ∷ ys) more h = ap₂ (λ a as'. a ∷ as') (cons_first h) (cut_back f xs ys more (cons_rest h))

-- ---- nodes

pub node_made : (m : Made) (i j : Option Assignable) (e : Expr) (names : List (List ℕ)) (t : Ty) (ts : List Ty)
    (ks : List Ker) (us : List Ty) (k : Ker) → m.place ≡ (out-Expr e).place → m.ty.now ≡ t → length names ≡ m.depth →
    length (out-Expr e).binds ≡ m.bound → passing i (out-Expr e).op (out-Expr e).args ≡ j →
    AllChildren j names e ts ks us → Makes m j (out-Expr e).op ks k → NodeTyped i names t e ts k us
node_made m i j e names t ts ks us k p q l b w c h =
    subst (λ z. NodeTyped i names z e ts k us) q
    (subst (λ z. TypedNode i (counted names) z m.ty.now (out-Expr e).op (out-Expr e).args (out-Expr e).binds ts k us) p
    (h i names (out-Expr e).args (out-Expr e).binds ts us l b w c))

pub tree_made : (i : Option Assignable) (names : List (List ℕ)) (e : Expr) (t : Ty) (ts : List Ty) (k : Ker)
    (us all : List Ty) → all ≡ t ∷ ts → NodeTyped i names t e ts k us → TreeTyped i names e all k us
tree_made i names e t ts k us all q d =
    subst (λ z. TreeTyped i names e z k us) (sym q) (at_node i (counted names) e t ts k us d)
