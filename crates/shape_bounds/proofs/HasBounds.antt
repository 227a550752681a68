-- What is computed has bounds.
use Rattle.std.proofs.Common.{◌≡◌, ℕ, [], ◌∷◌, refl, sym, subst, arith}
use Rattle.std.specs.List.{Contains}
use Rattle.kernel_trees.specs.declared.kernel.Ker.{Ker}
use Rattle.kernel_shapes.specs.Sized.{Extent}
use Rattle.tree_bounds.specs.Bounded.{with_bounds}
use Rattle.tree_bounds.proofs.Lying.{each_range_lies}
use Rattle.tree_bounds.proofs.SameExpressions.{same_forms, same_outcomes}
use Rattle.tree_bounds.proofs.SameShapes.{same_names}
use Rattle.tree_bounds.proofs.SoundBounds.{each_stays_sound, same_type}
use Rattle.shape_bounds.specs.BoundedTrees.{HasBounds}
use Rattle.shape_bounds.specs.Extents.{kept_extent}
use Rattle.shape_bounds.proofs.BoundNodes.{nodes_kept, texts_kept}

the_one : (g : Extent) → Contains (g ∷ []) g
the_one g = (0, omega arith, refl)

pub has_bounds : (w : ℕ) (k : Ker) (g : Extent) (r : Ker) → r ≡ with_bounds w k (g ∷ []) → HasBounds w k g r
has_bounds w k g r e =
    subst (HasBounds w k g) (sym e) (record {
      tree = refl;
      outcomes = same_outcomes w k (g ∷ []);
      forms = same_forms w k (g ∷ []);
      kind = same_type w k (g ∷ []);
      names = same_names w k (g ∷ []);
      nodes = λ test integers. nodes_kept w test integers k (g ∷ []);
      texts = λ xs. texts_kept w xs k (g ∷ []);
      stays_sound = λ names c b. each_stays_sound w names k c b (g ∷ []);
      within = λ names c b sc s t wide h covers. each_range_lies w names k c b (g ∷ []) g sc s t wide h (covers, tt) (the_one g);
    })

-- for each extent that the shapes stand for
pub each_has_bounds : (w : ℕ) (k : Ker) (h : Extent) (r : Ker) → ((g : Extent) → kept_extent g ≡ h → r ≡ with_bounds w k (g ∷ [])) →
    (g : Extent) → kept_extent g ≡ h → HasBounds w k g r
each_has_bounds w k h r f g e = has_bounds w k g r (f g e)
