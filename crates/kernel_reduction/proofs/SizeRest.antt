-- Ranges and IsFinite keep shape, literal and refusal.
use Rattle.std.proofs.Common.{ℕ, Bool, true, ◌&&◌, List, [], ◌∷◌, None, refl, sym, ◌∙◌, ap}
use Rattle.tla_meaning.specs.declared.op.Op.TheVariants as op
use Rattle.tla_meaning.specs.declared.place.Place.{Place}
use Rattle.tla_meaning.proofs.Views.{and_left}
use Rattle.snowcat_rows.specs.declared.types.Ty.{Ty}
use Rattle.kernel_trees.specs.declared.kernel.Ker.{Ker}
use Rattle.kernel_trees.specs.declared.kernel.Ker.TheOpen.{Ker-F}
use Rattle.kernel_trees.specs.declared.kernel.KerOp.TheVariants as ker
use Rattle.kernel_trees.specs.Trees.{names_of}
use Rattle.kernel_trees.specs.TypeKinds.{Kind}
use Rattle.kernel_shapes.specs.Rows.{no_literal, a_range, a_truth}
use Rattle.kernel_shapes.specs.Counts.{either_rank}
use Rattle.kernel_shapes.specs.Sized.{Sizing, walked, plain}
use Rattle.kernel_shapes.specs.Kernel.{ker_sized}
use Rattle.kernel_shapes.proofs.KernelNodes.{ker_parts, ker_sized-roll}
use Rattle.kernel_reduction.specs.Reduction.{Numbering}
use Rattle.kernel_reduction.specs.Rows.{node, tree, truth}
use Rattle.kernel_reduction.proofs.Ranks.{either_none}
use Rattle.kernel_reduction.proofs.Gists.{Gist, ranks}
use Rattle.kernel_reduction.proofs.GistNodes.{Gists, node_at, ker_gist, ker_gists, ker_node, whole}
use Rattle.kernel_reduction.proofs.SizeFrame.{KeepsGist, KeepsGists, IsSound, AllSound, same_here, of_here, opened, outside_sound}
use Rattle.kernel_reduction.proofs.SizeLeaves.{atom, truth_gist, walked_rank}
use Rattle.kernel_reduction.proofs.SizeBinders.{binding, binder_here, of_binder}

module _ (w : ℕ) (ρ : Numbering) (p : Place) (xs : List (List ℕ)) (ps : List Bool) (kd : Kind) (js : List Kind) (zs : Gists) (a : Ty) where
  pub sizes_range : (k l : Ker) → KeepsGists w ρ zs (k ∷ l ∷ []) → KeepsGist w ρ (node_at w p op.Range xs ps kd js zs) (node p a ker.Range (k ∷ l ∷ []))
  sizes_range k l b g h t s =
      let x : Ker-F Ker = opened p a ker.Range (k ∷ l ∷ []) in
      let q : AllSound w (k ∷ l ∷ []) h = outside_sound w (k ∷ l ∷ []) h (and_left _ true (sym (ap (λ (z : Sizing). (z h).sound) (ker_sized-roll w x)) ∙ s)) in
      ap (of_here w p (plain a_range no_literal)) (same_here w ρ zs (k ∷ l ∷ []) b g h t q)
      ∙ sym (ker_node w x h (whole op.Range (ker_parts x) refl))

  pub sizes_finite : (k : Ker) (n : ℕ) → KeepsGists w ρ zs (k ∷ []) → KeepsGist w ρ (node_at w p op.IsFinite xs ps kd js zs) (tree p a ker.Every (k ∷ truth p a true ∷ []) (n ∷ []))
  sizes_finite k n b g h t s =
      let x : Ker-F Ker = binding p a ker.Every (k ∷ truth p a true ∷ []) (n ∷ []) in
      let q : IsSound w k h = and_left (ker_sized w k h).sound true (and_left ((ker_sized w k h).sound && true) _ (sym (ap (λ (z : Sizing). (z h).sound) (ker_sized-roll w x)) ∙ s)) in
      ap (λ (as' : List Gist). atom (ranks walked as')) (same_here w ρ zs (k ∷ []) b g h t (q, tt))
      ∙ sym (ker_node w x h (whole op.Forall (ker_parts x) refl)
      ∙ binder_here w p 1 a_truth (names_of (n ∷ [])) (ker_gists w (k ∷ truth p a true ∷ [])) h
      ∙ ap (of_binder w p a_truth (ker_gist w k h ∷ [])) (truth_gist w p a true _)
      ∙ ap atom (either_none (either_rank (walked_rank w k h) None)))
