-- The texts of a node: its own, those of its type, and those of its children.
use Rattle.std.proofs.Common.{◌≡◌, ℕ, suc, false, List, [], ◌∷◌, ◌++◌, map, flat_map, sym, ◌∙◌, ap, subst}
use Rattle.std.proofs.Common.{All, Some}
use Rattle.std.proofs.lemmas.List.Elements.{All-append, All-cons, All-head, All-nil, All-tail}
use Rattle.kernel_trees.specs.declared.kernel.Ker.{Ker, out-Ker, roll-out-Ker}
use Rattle.kernel_trees.specs.declared.kernel.Ker.TheFolds.{fold-roll-Ker}
use Rattle.kernel_trees.specs.declared.kernel.KerOp.{KerOp}
use Rattle.kernel_trees.specs.Sound.{Context, kind_at}
use Rattle.kernel_trees.specs.TypeKinds.{Kind}
use Rattle.kernel_trees.proofs.SoundTrees.{Children}
use Rattle.typed_cells.specs.KindSorts.{names_within}
use Rattle.expr_rewriter.specs.Rewriting.{node_texts, own_texts, texts_in, type_texts}

pub texts_out : (k : Ker) → texts_in k ≡
    own_texts (out-Ker k).op ++ (type_texts (kind_at k) ++ flat_map (λ xs. xs) (map texts_in (out-Ker k).args))
unfolding texts_in
texts_out k = ap texts_in (sym (roll-out-Ker k)) ∙ fold-roll-Ker (List (List ℕ)) node_texts (out-Ker k)

module _ (P : List ℕ → Type 0) where
  pub front_of : (xs ys : List (List ℕ)) → All P (xs ++ ys) → All P xs
  front_of [] ys h = All-nil P
  front_of (x ∷ xs) ys h = All-cons P x xs (All-head P x (xs ++ ys) h) (front_of xs ys (All-tail P x (xs ++ ys) h))

  pub back_of : (xs ys : List (List ℕ)) → All P (xs ++ ys) → All P ys
  back_of [] ys h = h
  back_of (x ∷ xs) ys h = back_of xs ys (All-tail P x (xs ++ ys) h)

  pub own_texts_of : (k : Ker) → All P (texts_in k) → All P (own_texts (out-Ker k).op)
  own_texts_of k h = front_of (own_texts (out-Ker k).op) _ (subst (All P) (texts_out k) h)

  pub type_texts_of : (k : Ker) (a : Kind) → kind_at k ≡ Some a → All P (texts_in k) → All P (names_within a)
  type_texts_of k a e h =
      subst (λ o. All P (type_texts o)) e
      (front_of (type_texts (kind_at k)) _ (back_of (own_texts (out-Ker k).op) _ (subst (All P) (texts_out k) h)))

  pub child_texts_of : (k : Ker) → All P (texts_in k) → All P (flat_map (λ xs. xs) (map texts_in (out-Ker k).args))
  child_texts_of k h =
      back_of (type_texts (kind_at k)) _ (back_of (own_texts (out-Ker k).op) _ (subst (All P) (texts_out k) h))

  -- of children of these kinds the field names of their types
  pub kind_texts : (names : List Kind) (o : KerOp) (n : ℕ) (c : Context) (ks : List Ker) (as' : List Kind) →
      Children names o n c false ks as' →
      All P (flat_map (λ xs. xs) (map texts_in ks)) → All P (flat_map names_within as')
  kind_texts names o n c [] [] ch h = All-nil P
  kind_texts names o n c [] (a ∷ as') ch h = absurd ch
  kind_texts names o n c (k ∷ ks) [] ch h = absurd ch
  kind_texts names o n c (k ∷ ks) (a ∷ as') ch h =
      let rest : List (List ℕ) = flat_map (λ xs. xs) (map texts_in ks) in
      All-append P (names_within a) (flat_map names_within as')
      (type_texts_of k a ch.0.0 (front_of (texts_in k) rest h))
      (kind_texts names o (suc n) c ks as' ch.1 (back_of (texts_in k) rest h))
