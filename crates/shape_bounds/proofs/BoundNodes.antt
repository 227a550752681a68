-- The nodes of a tree with bounds are those of the tree and integer constants.
use Rattle.std.proofs.Common.{◌≡◌, ℕ, Bool, true, false, ◌&&◌, IsTrue, List, [], ◌∷◌, map, ℤ, refl, sym, ◌∙◌, ap}
use Rattle.std.specs.List.{list_all}
use Rattle.tla_values.specs.declared.value.Value.TheVariants as value
use Rattle.tla_meaning.specs.declared.place.Place.{Place}
use Rattle.tla_meaning.proofs.Views.{and_both}
use Rattle.snowcat_rows.specs.declared.types.Ty.{Ty, Int as int_ty}
use Rattle.kernel_trees.specs.declared.kernel.Ker.{Ker, roll-Ker}
use Rattle.kernel_trees.specs.declared.kernel.Ker.TheFolds.{fold-roll-Ker}
use Rattle.kernel_trees.specs.declared.kernel.Ker.TheOpen.{Ker-F}
use Rattle.kernel_trees.specs.declared.kernel.KerOp.{KerOp}
use Rattle.kernel_trees.specs.declared.kernel.KerOp.TheVariants as ker
use Rattle.kernel_trees.specs.Sound.{literal_of}
use Rattle.kernel_trees.specs.Systems.{one_of, texts_within}
use Rattle.kernel_trees.proofs.SoundWider.{and_mono}
use Rattle.kernel_trees.proofs.Trees.{Each, by_nodes}
use Rattle.kernel_shapes.specs.Shape.{Shape}
use Rattle.kernel_shapes.specs.Sized.{Extent}
use Rattle.tree_bounds.specs.Bounded.{bounded_each, constant, high_end, low_end, with_bounds, with_ends}
use Rattle.tree_bounds.proofs.SameExpressions.{bounds_node, with_bounding}
use Rattle.shape_bounds.specs.BoundedTrees.{PassesNumbers, each_node}

each_node-roll : (test : KerOp → Ty → Bool) (x : Ker-F Ker) →
    each_node test (roll-Ker x) ≡ (test x.op x.ty && list_all (λ b. b) (map (each_node test) x.args))
unfolding each_node
each_node-roll test x = fold-roll-Ker Bool (λ x. test x.op x.ty && list_all (λ b. b) x.args) x

module _ (w : ℕ) (test : KerOp → Ty → Bool) (integers : PassesNumbers test) where
  abbrev all_pass : List Ker → Bool
  all_pass ks = list_all (λ b. b) (map (each_node test) ks)

  abbrev Keeps : Ker → Type 0
  Keeps k = (gs : List Extent) → each_node test k ≡ true → each_node test (with_bounds w k gs) ≡ true

  each_keeps : (ms : List Bool) (gs hs : List Extent) (ks : List Ker) → Each Keeps ks → all_pass ks ≡ true →
      all_pass (bounded_each ms gs hs (with_bounding w ks)) ≡ true
  each_keeps ms gs hs [] h e = refl
  each_keeps [] gs hs (k ∷ ks) h e =
      and_mono (each_node test k) (all_pass ks) (each_node test (with_bounds w k gs))
      (all_pass (bounded_each [] gs hs (with_bounding w ks))) (h.0 gs) (each_keeps [] gs hs ks h.1) e
  each_keeps (true ∷ ms) gs hs (k ∷ ks) h e =
      and_mono (each_node test k) (all_pass ks) (each_node test (with_bounds w k hs))
      (all_pass (bounded_each ms gs hs (with_bounding w ks))) (h.0 hs) (each_keeps ms gs hs ks h.1) e
  each_keeps (false ∷ ms) gs hs (k ∷ ks) h e =
      and_mono (each_node test k) (all_pass ks) (each_node test (with_bounds w k gs))
      (all_pass (bounded_each ms gs hs (with_bounding w ks))) (h.0 gs) (each_keeps ms gs hs ks h.1) e

  constant_passes : (p : Place) (n : ℤ) → each_node test (constant p n) ≡ true
  constant_passes p n =
      each_node-roll test (record { place = p; ty = int_ty; op = ker.Const (value.Int n); args = []; binds = [] })
      ∙ and_both (test (ker.Const (value.Int n)) int_ty) true (integers n) refl

  ends_pass : (o : KerOp) (p : Place) (a : Shape) (ks : List Ker) → all_pass ks ≡ true →
      all_pass (with_ends o p a ks) ≡ true
  ends_pass ker.Range p a [] h = h
  ends_pass ker.Range p a (x ∷ []) h = h
  ends_pass ker.Range p a (x ∷ y ∷ ks) h =
      let low : Bool = each_node test (constant p (low_end a)) in
      let high : Bool = each_node test (constant p (high_end a)) in
      and_mono (each_node test x) (each_node test y && all_pass ks) (each_node test x)
      (each_node test y && (low && (high && true))) (λ e. e)
      (and_mono (each_node test y) (all_pass ks) (each_node test y) (low && (high && true)) (λ e. e)
      (λ e. and_both low (high && true) (constant_passes p (low_end a))
      (and_both high true (constant_passes p (high_end a)) refl))) h
  ends_pass o p a ks h = h

  keeps : (k : Ker) → Keeps k
  keeps = by_nodes Keeps (λ x h gs e.
      ap (each_node test) (bounds_node w x gs)
      ∙ each_node-roll test _
      ∙ and_mono (test x.op x.ty) (all_pass x.args) (test x.op x.ty) (all_pass _) (λ d. d)
      (λ d. ends_pass x.op x.place _ _ (each_keeps _ gs _ x.args h d)) (sym (each_node-roll test x) ∙ e))

pub nodes_kept : (w : ℕ) (test : KerOp → Ty → Bool) → PassesNumbers test → (k : Ker) (gs : List Extent) →
    IsTrue (each_node test k) → IsTrue (each_node test (with_bounds w k gs))
nodes_kept w test integers k gs h = keeps w test integers k gs h

-- ---- texts

abbrev text_test : List (List ℕ) → KerOp → Ty → Bool
text_test xs o t = one_of xs (literal_of o)

texts_are : (xs : List (List ℕ)) (k : Ker) → texts_within xs k ≡ each_node (text_test xs) k
unfolding texts_within each_node
texts_are xs k = refl

pub texts_kept : (w : ℕ) (xs : List (List ℕ)) (k : Ker) (gs : List Extent) → IsTrue (texts_within xs k) →
    IsTrue (texts_within xs (with_bounds w k gs))
texts_kept w xs k gs h =
    texts_are xs (with_bounds w k gs)
    ∙ nodes_kept w (text_test xs) (λ n. ap (one_of xs) (value.outs-Int n)) k gs (sym (texts_are xs k) ∙ h)
