-- The texts of a tree with bounds.
use Rattle.std.proofs.Common.{ℕ, List, [], ◌∷◌}
use Rattle.std.specs.Prelude.{All}
use Rattle.kernel_trees.specs.declared.kernel.Ker.{Ker}
use Rattle.kernel_shapes.specs.Sized.{Extent}
use Rattle.shape_bounds.specs.BoundedTrees.{HasBounds}
use Rattle.typed_cells.specs.Known.{IsTextAmong}
use Rattle.expr_rewriter.specs.Rewriting.{texts_in}
use Rattle.system_texts.specs.SystemTexts.{HasTreeTexts}
use Rattle.system_texts.proofs.TextLaws.{tree_texts_among, tree_texts_stay}

pub bounded_texts : (texts : List (List ℕ)) (w : ℕ) (k : Ker) (g : Extent) (r : Ker) → HasBounds w k g r →
    HasTreeTexts texts k → All (IsTextAmong texts) ([] ∷ texts_in r)
bounded_texts texts w k g r h t = tree_texts_among texts r (tree_texts_stay texts w k g r h t)
