-- The texts of a tree are among given ones, by its node.
use Rattle.std.proofs.Common.{◌≡◌, ℕ, ℤ, ◌+◌, ◌<◌, ◌≤◌, Bool, List, [], ◌∷◌, ◌++◌, All, map, length, take, get_or, flat_map, Option, refl, sym, ◌∙◌, ap, subst}
use Rattle.std.proofs.lemmas.List.{take_all, take_more}
use Rattle.std.proofs.lemmas.List.Elements.{All-nil, All-cons, All-append}
use Rattle.tla_values.specs.declared.value.Value.{Value, out-Value}
use Rattle.tla_values.specs.declared.value.Value.TheVariants as value
use Rattle.kernel_trees.specs.declared.kernel.Ker.{Ker, out-Ker, roll-out-Ker}
use Rattle.kernel_trees.specs.declared.kernel.Ker.TheFolds.{fold-roll-Ker}
use Rattle.kernel_trees.specs.declared.kernel.KerOp.{KerOp}
use Rattle.kernel_trees.specs.declared.kernel.KerOp.TheVariants as ker
use Rattle.kernel_trees.specs.Sound.{kind_at}
use Rattle.typed_cells.specs.Known.{IsTextAmong}
use Rattle.expr_rewriter.specs.Rewriting.{constant_texts, node_texts, own_texts, texts_in, type_texts}
use Rattle.rewriting_tests.specs.inner.Among.{AreAmong}

texts-out : (k : Ker) →
    texts_in k ≡ own_texts (out-Ker k).op ++ (type_texts (kind_at k) ++ flat_map (λ xs. xs) (map texts_in (out-Ker k).args))
unfolding texts_in
texts-out k = ap texts_in (sym (roll-out-Ker k)) ∙ fold-roll-Ker (List (List ℕ)) node_texts (out-Ker k)

module _ (ts : List (List ℕ)) where
  -- ---- constants

  by_texts : (o : KerOp) (v : Value) (xs : List (List ℕ)) → o ≡ ker.Const v → constant_texts (out-Value v) ≡ xs → AreAmong ts xs →
      AreAmong ts (own_texts o)
  by_texts o v xs e f h = subst (AreAmong ts) (sym (ap own_texts e ∙ f)) h

  pub bool-among : (o : KerOp) (v : Bool) → o ≡ ker.Const (value.Bool v) → AreAmong ts (own_texts o)
  bool-among o v e =
      by_texts o (value.Bool v) [] e (ap constant_texts (value.outs-Bool v)) (All-nil (IsTextAmong ts))

  pub int-among : (o : KerOp) (v : ℤ) → o ≡ ker.Const (value.Int v) → AreAmong ts (own_texts o)
  int-among o v e =
      by_texts o (value.Int v) [] e (ap constant_texts (value.outs-Int v)) (All-nil (IsTextAmong ts))

  pub text-among : (o : KerOp) (x : List ℕ) → o ≡ ker.Const (value.Text x) → IsTextAmong ts x → AreAmong ts (own_texts o)
  text-among o x e h =
      by_texts o (value.Text x) (x ∷ []) e (ap constant_texts (value.outs-Text x))
      (All-cons (IsTextAmong ts) x [] h (All-nil (IsTextAmong ts)))

  -- ---- trees

  abbrev pub AreTreesAmong : List Ker → Type 0
  AreTreesAmong [] = Unit {0}
  AreTreesAmong (k ∷ ks) = AreAmong ts (texts_in k) × AreTreesAmong ks

  all_texts : (ks : List Ker) → AreTreesAmong ks → AreAmong ts (flat_map (λ xs. xs) (map texts_in ks))
  all_texts [] h = All-nil (IsTextAmong ts)
  all_texts (k ∷ ks) h =
      All-append (IsTextAmong ts) (texts_in k) (flat_map (λ xs. xs) (map texts_in ks)) h.0 (all_texts ks h.1)

  pub tree-among : (k : Ker) (ks : List Ker) → AreAmong ts (own_texts (out-Ker k).op) → AreAmong ts (type_texts (kind_at k)) →
      ks ≡ (out-Ker k).args → AreTreesAmong ks → AreAmong ts (texts_in k)
  tree-among k ks own ty e h =
      let args = (out-Ker k).args in
      subst (AreAmong ts) (sym (texts-out k))
      (All-append (IsTextAmong ts) (own_texts (out-Ker k).op)
      (type_texts (kind_at k) ++ flat_map (λ xs. xs) (map texts_in args)) own
      (All-append (IsTextAmong ts) (type_texts (kind_at k)) (flat_map (λ xs. xs) (map texts_in args)) ty
      (all_texts args (subst AreTreesAmong e h))))

  push_tree : (ks : List Ker) (k : Ker) → AreTreesAmong ks → AreAmong ts (texts_in k) → AreTreesAmong (ks ++ k ∷ [])
  push_tree [] k h one = (one, tt)
  push_tree (j ∷ ks) k h one = (h.0, push_tree ks k h.1 one)

  pub trees-more : (ks : List Ker) (i : ℕ) (k : Ker) → i < length ks → k ≡ get_or ks i k → AreTreesAmong (take i ks) →
      AreAmong ts (texts_in k) → AreTreesAmong (take (i + 1) ks)
  trees-more ks i k lt e h one =
      subst AreTreesAmong (ap (λ z. take i ks ++ z ∷ []) e ∙ sym (take_more ks i k lt)) (push_tree (take i ks) k h one)

  pub trees-all : (ks : List Ker) (i : ℕ) → length ks ≤ i → AreTreesAmong (take i ks) → AreTreesAmong ks
  trees-all ks i le h = subst AreTreesAmong (take_all i ks le) h
