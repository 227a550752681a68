-- What is computed of a node that binds numbers, by its sets and its body.
use Rattle.std.proofs.Common.{◌≡◌, ℕ, suc, List, [], ◌∷◌, ◌++◌, map, take, length, Option, None, refl, ◌∙◌, ap, ap₂, arith, IsTrue}
use Rattle.tla_meaning.specs.declared.place.Place.{Place}
use Rattle.tla_meaning.proofs.Views.{false≢true}
use Rattle.snowcat_rows.specs.declared.types.Ty.{Ty}
use Rattle.kernel_trees.specs.declared.kernel.Ker.{Ker}
use Rattle.kernel_trees.specs.declared.kernel.KerOp.{KerOp}
use Rattle.kernel_trees.specs.declared.kernel.KerOp.TheVariants as ker
use Rattle.kernel_trees.specs.Trees.{names_of}
use Rattle.kernel_shapes.specs.Counts.{Count, count_at}
use Rattle.kernel_shapes.specs.Kernel.{ker_sized}
use Rattle.kernel_shapes.specs.Rows.{Row, no_literal, row_shape, insides}
use Rattle.kernel_shapes.specs.Shape.{Shape}
use Rattle.kernel_shapes.specs.Sized.{Extent, Position, Sized, Sizing, Seen, seen, walked, counts_of, shapes_of, bind_shapes, binder, body, family_shape, within}
use Rattle.kernel_shapes.proofs.KernelNodes.{ker-shape-roll, ker-counts-roll}
use Rattle.kernel_shapes.proofs.SoundBinders.{evaluated, behind_sets, here_front, under_body}
use Rattle.shape_bounds.specs.inner.Nodes.{binder_row, is_binder}
use Rattle.shape_bounds.proofs.NodeShapes.{made}

-- where the bound names have the shapes of the members
abbrev pub under_sets : List (List ℕ) → List Sizing → Extent → Extent
under_sets xs zs g = bind_shapes xs (insides (shapes_of (evaluated g zs))) g

abbrev pub sets_and_body : List (List ℕ) → List Sizing → Sizing → Extent → List Shape
sets_and_body xs zs z g = shapes_of (evaluated g zs) ++ (z (under_sets xs zs g)).shape ∷ []

module _ (read : Extent → Option Shape) (xs : List (List ℕ)) (zs : List Sizing) (z : Sizing) (g : Extent) where
  abbrev looked : Seen
  looked = seen read (behind_sets (length zs)) xs (zs ++ z ∷ []) g

  body_is : body (length zs) looked ≡ z (under_sets xs zs g)
  body_is =
      under_body zs z (bind_shapes xs (insides (shapes_of (take (length zs) looked.here))) g)
      ∙ ap (λ (as' : List Sized). z (bind_shapes xs (insides (shapes_of as')) g)) (here_front zs z g)

  binder_shapes : shapes_of (take (length zs) looked.here) ++ (body (length zs) looked).shape ∷ [] ≡ sets_and_body xs zs z g
  binder_shapes = ap₂ (λ (as' : List Sized) (b : Sized). shapes_of as' ++ b.shape ∷ []) (here_front zs z g) body_is

  binder_numbers : counts_of walked (take (length zs) looked.here) ++ (body (length zs) looked).counts walked
      ≡ counts_of walked (evaluated g zs) ++ (z (under_sets xs zs g)).counts walked
  binder_numbers = ap₂ (λ (as' : List Sized) (b : Sized). counts_of walked as' ++ b.counts walked) (here_front zs z g) body_is

mapped_end : (w : ℕ) (ks : List Ker) (b : Ker) → map (ker_sized w) (ks ++ b ∷ []) ≡ map (ker_sized w) ks ++ ker_sized w b ∷ []
mapped_end w [] b = refl
mapped_end w (k ∷ ks) b = ap (λ (zs : List Sizing). ker_sized w k ∷ zs) (mapped_end w ks b)

many_names : (w : ℕ) (xs : List ℕ) (ks : List Ker) → length xs ≡ length ks → length (names_of xs) ≡ length (map (ker_sized w) ks)
many_names w [] [] e = refl
many_names w [] (k ∷ ks) e = absurd (cc)
many_names w (x ∷ xs) [] e = absurd (cc)
many_names w (x ∷ xs) (k ∷ ks) e = ap suc (many_names w xs ks (omega (arith, e)))

module _ (w : ℕ) (p : Place) (t : Ty) (xs : List ℕ) (ks : List Ker) (b : Ker) (same : length xs ≡ length ks) (g : Extent) where
  abbrev sets : List Sizing
  sets = map (ker_sized w) ks

  abbrev at_sizings : List Sizing → ℕ → Seen
  at_sizings zs n = seen (λ e. None) (behind_sets n) (names_of xs) zs g

  at_row : (r : ℕ → Row) → family_shape w (binder (length (names_of xs)) (r (length (names_of xs)))) (at_sizings (map (ker_sized w) (ks ++ b ∷ [])) (length (names_of xs)))
      ≡ row_shape w (r (length (names_of xs))) no_literal (sets_and_body (names_of xs) sets (ker_sized w b) g)
  at_row r =
      let n : ℕ = length (names_of xs) in
      ap (λ (zs : List Sizing). family_shape w (binder n (r n)) (at_sizings zs n)) (mapped_end w ks b)
      ∙ ap (λ (m : ℕ). row_shape w (r n) no_literal (shapes_of (take m (at_sizings (sets ++ ker_sized w b ∷ []) m).here) ++ (body m (at_sizings (sets ++ ker_sized w b ∷ []) m)).shape ∷ []))
      (many_names w xs ks same)
      ∙ ap (row_shape w (r n) no_literal) (binder_shapes (λ e. None) (names_of xs) sets (ker_sized w b) g)

  at_numbers : (r : ℕ → Row) →
      count_at p (family_shape w (binder (length (names_of xs)) (r (length (names_of xs)))) (at_sizings (map (ker_sized w) (ks ++ b ∷ [])) (length (names_of xs))))
      ++ within (binder (length (names_of xs)) (r (length (names_of xs)))) (at_sizings (map (ker_sized w) (ks ++ b ∷ [])) (length (names_of xs))) walked
      ≡ count_at p (row_shape w (r (length (names_of xs))) no_literal (sets_and_body (names_of xs) sets (ker_sized w b) g))
      ++ (counts_of walked (evaluated g sets) ++ (ker_sized w b (under_sets (names_of xs) sets g)).counts walked)
  at_numbers r =
      let n : ℕ = length (names_of xs) in
      ap₂ (λ (a : Shape) (cs : List Count). count_at p a ++ cs) (at_row r)
      (ap (λ (zs : List Sizing). within (binder n (r n)) (at_sizings zs n) walked) (mapped_end w ks b)
      ∙ ap (λ (m : ℕ). counts_of walked (take m (at_sizings (sets ++ ker_sized w b ∷ []) m).here) ++ (body m (at_sizings (sets ++ ker_sized w b ∷ []) m)).counts walked)
      (many_names w xs ks same)
      ∙ binder_numbers (λ e. None) (names_of xs) sets (ker_sized w b) g)

  -- the row of the sets and the body
  pub binder_shape : (o : KerOp) → IsTrue (is_binder o) →
      (ker_sized w (made p t o (ks ++ b ∷ []) xs) g).shape
      ≡ row_shape w (binder_row o (length (names_of xs))) no_literal (sets_and_body (names_of xs) sets (ker_sized w b) g)
  binder_shape ker.Filter h = ker-shape-roll w _ g ∙ at_row (binder_row ker.Filter)
  binder_shape ker.MapOver h = ker-shape-roll w _ g ∙ at_row (binder_row ker.MapOver)
  binder_shape ker.FunOf h = ker-shape-roll w _ g ∙ at_row (binder_row ker.FunOf)
  binder_shape ker.Some h = ker-shape-roll w _ g ∙ at_row (binder_row ker.Some)
  binder_shape ker.Every h = ker-shape-roll w _ g ∙ at_row (binder_row ker.Every)
  binder_shape o h = absurd (false≢true h)

  pub binder_counts : (o : KerOp) → IsTrue (is_binder o) → (q : Position) →
      (ker_sized w (made p t o (ks ++ b ∷ []) xs) g).counts q
      ≡ count_at p (row_shape w (binder_row o (length (names_of xs))) no_literal (sets_and_body (names_of xs) sets (ker_sized w b) g))
      ++ (counts_of walked (evaluated g sets) ++ (ker_sized w b (under_sets (names_of xs) sets g)).counts walked)
  binder_counts ker.Filter h q = ker-counts-roll w _ g q ∙ at_numbers (binder_row ker.Filter)
  binder_counts ker.MapOver h q = ker-counts-roll w _ g q ∙ at_numbers (binder_row ker.MapOver)
  binder_counts ker.FunOf h q = ker-counts-roll w _ g q ∙ at_numbers (binder_row ker.FunOf)
  binder_counts ker.Some h q = ker-counts-roll w _ g q ∙ at_numbers (binder_row ker.Some)
  binder_counts ker.Every h q = ker-counts-roll w _ g q ∙ at_numbers (binder_row ker.Every)
  binder_counts o h q = absurd (false≢true h)
