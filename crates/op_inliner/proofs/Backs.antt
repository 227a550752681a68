-- A tree whose bound names are given back has the nodes that it had.
use Rattle.std.proofs.Common.{◌≡◌, ℕ, suc, Bool, true, false, ◌&&◌, List, [], ◌∷◌, ◌++◌, map, length, refl, ap, ap₂, ◌∙◌, sym, subst}
use Rattle.std.specs.List.{list_all}
use Rattle.tla_meaning.specs.declared.expr.Expr.{Expr, roll-Expr}
use Rattle.tla_meaning.specs.declared.expr.Expr.TheOpen.{Expr-F}
use Rattle.tla_meaning.specs.declared.expr.Expr.TheFolds.{map-Expr, ind-Expr}
use Rattle.tla_meaning.specs.declared.op.Op.{Op}
use Rattle.tla_meaning.specs.declared.place.Place.{Place}
use Rattle.tla_meaning.specs.Meaning.{Role, Named, Held, Lets, Plain_role, role}
use Rattle.tla_meaning.specs.Renamings.{Renaming}
use Rattle.tla_meaning.specs.Substitution.{Test, each}
use Rattle.op_inliner.specs.Answers.{size, sum}
use Rattle.op_inliner.specs.Inlining.{rename_held}
use Rattle.op_inliner.specs.NamesBack.{Open, backs, new_names, open_node, opened, renamed_to}
use Rattle.op_inliner.proofs.GivenBack.{opened-roll}
use Rattle.op_inliner.proofs.Sizes.{size-roll}
use Rattle.tla_meaning.proofs.Laws.{each-roll}

-- a number of a tree's nodes, or a test of them, that takes bound names for one another
module _ (X : Type 0) (of : Expr → X) (by_node : Op → List (List ℕ) → List X → X)
    (rolls : (x : Expr-F Expr) → of (roll-Expr x) ≡ by_node x.op x.binds (map of x.args))
    (blind : (y : List ℕ) (o : Op) (xs ys : List (List ℕ)) (zs : List X) → by_node (rename_held y o) ys zs ≡ by_node o xs zs) where
  abbrev Same : Expr → Type 0
  Same e = (f : Renaming) (u : List (List ℕ)) → of ((opened e).back f u) ≡ of e

  abbrev Back : Type 0
  Back = (e : Expr) × Same e

  abbrev exprs : List Back → List Expr
  exprs ys = map (λ y. y.0) ys

  all_same : (ms : List Bool) (ys : List Back) (f : Renaming) (u : List (List ℕ)) (g : Renaming) (v : List (List ℕ)) →
      map of (backs ms (map opened (exprs ys)) f u g v) ≡ map of (exprs ys)
  all_same ms [] f u g v = refl
  all_same [] (y ∷ ys) f u g v = ap₂ (λ (k : X) (ks : List X). k ∷ ks) (y.1 f u) (all_same [] ys f u g v)
  all_same (true ∷ ms) (y ∷ ys) f u g v = ap₂ (λ (k : X) (ks : List X). k ∷ ks) (y.1 g v) (all_same ms ys f u g v)
  all_same (false ∷ ms) (y ∷ ys) f u g v = ap₂ (λ (k : X) (ks : List X). k ∷ ks) (y.1 f u) (all_same ms ys f u g v)

  keeps : (o : Op) → ((xs ys : List (List ℕ)) (zs : List X) → by_node o ys zs ≡ by_node o xs zs)
  keeps o = λ xs ys zs. sym (blind [] o ys ys zs) ∙ blind [] o xs ys zs

  node_same : (p : Place) (o : Op) (xs : List (List ℕ)) (ys : List Back) (q : Role) (f : Renaming) (u : List (List ℕ)) →
      of ((open_node (record { place = p; op = o; args = map opened (exprs ys); binds = xs }) q).back f u) ≡ by_node o xs (map of (exprs ys))
  node_same p o xs ys (Named z) f u = rolls _ ∙ ap (by_node o xs) (all_same [] ys f u f u)
  node_same p o xs ys (Held z) f u = rolls _ ∙ blind (f z) o xs xs _ ∙ ap (by_node o xs) (all_same [] ys f u f u)
  node_same p o xs ys (Lets ds) f u = rolls _ ∙ ap (by_node o xs) (all_same [] ys f u f u)
  node_same p o xs ys (Plain_role ms) f u =
      let zs : List (List ℕ) = new_names ms xs (map opened (exprs ys)) f u in
      rolls _ ∙ keeps o xs zs _ ∙ ap (by_node o xs) (all_same ms ys f u (renamed_to xs zs f) (u ++ zs))

  pub same_back : (e : Expr) → Same e
  same_back = ind-Expr Same (λ x y is.
      subst (λ (z : Expr-F Expr). Same (roll-Expr z)) is (λ f u.
      let z : Expr-F Expr = map-Expr Back Expr (λ e. e.0) y in
      ap (λ (k : Open). of (k.back f u)) (opened-roll z)
      ∙ node_same z.place z.op z.binds y.args (role z.op (length z.binds)) f u
      ∙ sym (rolls z)))

pub size_back : (e : Expr) (f : Renaming) (u : List (List ℕ)) → size ((opened e).back f u) ≡ size e
size_back = same_back ℕ size (λ o xs ns. suc (sum ns)) size-roll (λ y o xs ys ns. refl)

pub each_back : (test : Test) → ((y : List ℕ) (o : Op) (xs ys : List (List ℕ)) → test (rename_held y o) ys ≡ test o xs) →
    (e : Expr) (f : Renaming) (u : List (List ℕ)) → each test ((opened e).back f u) ≡ each test e
each_back test blind =
    same_back Bool (each test) (λ o xs bs. test o xs && list_all (λ b. b) bs) (each-roll test)
    (λ y o xs ys bs. ap (λ b. b && list_all (λ b. b) bs) (blind y o xs ys))
