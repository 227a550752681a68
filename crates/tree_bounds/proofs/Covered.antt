-- The extents in which what stands under bound numbers is evaluated give the names that it reads shapes of their types.
use Rattle.std.proofs.Common.{◌≡◌, ℕ, zero, suc, false, IsTrue, List, [], ◌∷◌, ◌++◌, map, flat_map, zip, length, Some, sym, ◌∙◌, refl}
use Rattle.std.specs.List.{AllByRecursion}
use Rattle.kernel_trees.specs.declared.kernel.Ker.{Ker, out-Ker}
use Rattle.kernel_trees.specs.declared.kernel.KerOp.TheVariants as ker
use Rattle.kernel_trees.specs.Paths.{mentions}
use Rattle.kernel_trees.specs.Sound.{Context, literal_of, updated_kind}
use Rattle.kernel_trees.specs.Trees.{names_of}
use Rattle.kernel_trees.specs.TypeKinds as kind
use Rattle.kernel_trees.specs.TypeKinds.{Kind}
use Rattle.kernel_trees.proofs.SoundTrees.{Child, Sets}
use Rattle.kernel_shapes.specs.Shape.{Shape, count, inside}
use Rattle.kernel_shapes.specs.Kernel.{ker_shape, ker_sized}
use Rattle.kernel_shapes.specs.Rows.{applied_at, insides}
use Rattle.kernel_shapes.specs.Sized.{Extent, bind_shapes}
use Rattle.kernel_shapes.specs.TypedExtents.{OfTypes, without_shape}
use Rattle.kernel_shapes.specs.TypedStates.{OfKind}
use Rattle.kernel_shapes.proofs.FitLemmas.{all_to}
use Rattle.kernel_shapes.proofs.KindLaw.{place_kind}
use Rattle.kernel_shapes.proofs.SoundBinders.{Updated, updated_good}
use Rattle.kernel_shapes.proofs.SoundShapes.{more_types}
use Rattle.kernel_shapes.proofs.WellNamed.{well_named}
use Rattle.tree_bounds.specs.Bounded.{extents_under, step_extents}
use Rattle.tree_bounds.proofs.Elements.{all_flat}
use Rattle.tree_bounds.proofs.Fitting.{Covered, any_first, any_of, any_rest, good_at, ker_literal, members_of_kinds, sets_many}

-- the extent of a binder's body, by its sets
abbrev pub under_sets : ℕ → List ℕ → List Ker → Extent → List Extent
under_sets w xs ks g = bind_shapes (names_of xs) (insides (map (λ k. ker_shape w k g) ks)) g ∷ []

-- the shape of the old value of an update
abbrev pub old_shape : ℕ → Ker → Ker → Extent → Shape
old_shape w f i g = applied_at (ker_shape w f g) (ker_sized w i g).literal

-- the extent of a fold's step, by the value so far
abbrev pub step_extent : ℕ → ℕ → Shape → Shape → Extent → Extent
step_extent x y a b g = bind_shapes (names_of (x ∷ y ∷ [])) (a ∷ b ∷ []) g

module _ (w : ℕ) (names : List Kind) (c : Context) where
  -- several trees, at all extents
  abbrev pub AllCovered : List Ker → List Extent → Type 0
  AllCovered ks gs = AllByRecursion (λ g. OfTypes names c g × (any_of (without_shape g) ks ≡ false)) gs

  pub first_covered : (k : Ker) (ks : List Ker) (gs : List Extent) → AllCovered (k ∷ ks) gs →
      AllByRecursion (Covered names c k) gs
  first_covered k ks gs h = all_to _ _ (λ g r. (r.0, any_first (mentions (without_shape g) k) _ r.1)) gs h

  pub rest_covered : (k : Ker) (ks : List Ker) (gs : List Extent) → AllCovered (k ∷ ks) gs → AllCovered ks gs
  rest_covered k ks gs h = all_to _ _ (λ g r. (r.0, any_rest (mentions (without_shape g) k) _ r.1)) gs h

  pub body_covered : (xs : List ℕ) (sets : List Ker) (body : Ker) (ms : List Kind) (gs : List Extent) →
      length sets ≡ length xs → Sets names c sets ms →
      AllByRecursion
      (λ g. OfTypes names c g × (any_of (without_shape g) sets ≡ false) × (mentions (without_shape g) body ≡ false))
      gs →
      AllByRecursion (Covered names (c ++ zip xs ms) body) (flat_map (under_sets w xs sets) gs)
  body_covered xs sets body ms gs many h r =
      all_flat (Covered names (c ++ zip xs ms) body) (under_sets w xs sets) gs (all_to _ _ (λ g q. (
        (
          more_types names c g xs ms (insides (map (λ k. ker_shape w k g) sets)) q.0
              (sym many ∙ sets_many names c sets ms h)
              (members_of_kinds w names c g sets ms q.0 q.1 h),
          q.2,
        ),
        tt,
      )) gs r)

  -- what is known of an update's old value
  pub updated_at : (g : Extent) (a j d : Kind) (f i : Ker) → IsTrue (well_named a) → Child names c false a f →
      Covered names c f g →
      updated_kind a j (literal_of (out-Ker i).op) ≡ Some d → Updated a d (ker_shape w f g) (ker_sized w i g).literal
  updated_at g a j d f i n h r q =
      updated_good a j d (literal_of (out-Ker i).op) (ker_sized w i g).literal (ker_shape w f g) q (ker_literal w g i) n
      (good_at w names c false g a f h r).0

  pub right_covered : (x : ℕ) (f i e : Ker) (a j d : Kind) (gs : List Extent) → IsTrue (well_named a) →
      Child names c false a f →
      updated_kind a j (literal_of (out-Ker i).op) ≡ Some d → AllCovered (f ∷ i ∷ e ∷ []) gs →
      AllByRecursion (Covered names (c ++ (x, d) ∷ []) e)
      (flat_map (extents_under w ker.Update (x ∷ []) (f ∷ i ∷ e ∷ [])) gs)
  right_covered x f i e a j d gs n h q r =
      all_flat (Covered names (c ++ (x, d) ∷ []) e) (extents_under w ker.Update (x ∷ []) (f ∷ i ∷ e ∷ [])) gs
      (all_to _ _ (λ g m.
      let m1 = any_first (mentions (without_shape g) f) _ m.1 in
      let m2 = any_rest (mentions (without_shape g) i) _ (any_rest (mentions (without_shape g) f) _ m.1) in (
        (
          more_types names c g (x ∷ []) (d ∷ []) (old_shape w f i g ∷ []) m.0 refl
              ((updated_at g a j d f i n h (m.0, m1) q).old, tt),
          any_first (mentions (without_shape g) e) false m2,
        ),
        tt,
      )) gs r)

  pub step_covered : (x y : ℕ) (e : Ker) (a d : Kind) (so_far item : Shape) (g : Extent) → OfTypes names c g →
      mentions (without_shape g) e ≡ false →
      OfKind a so_far → OfKind d item → Covered names (c ++ (x, a) ∷ (y, d) ∷ []) e (step_extent x y so_far item g)
  step_covered x y e a d so_far item g r m h k =
      (more_types names c g (x ∷ y ∷ []) (a ∷ d ∷ []) (so_far ∷ item ∷ []) r refl (h, (k, tt)), m)

  -- a step keeps the type of the value so far
  pub step_kind : (x y : ℕ) (e : Ker) (a d : Kind) (so_far item : Shape) (g : Extent) →
      Child names (c ++ (x, a) ∷ (y, d) ∷ []) false a e →
      OfTypes names c g → mentions (without_shape g) e ≡ false → OfKind a so_far → OfKind d item →
      OfKind a (ker_shape w e (step_extent x y so_far item g))
  step_kind x y e a d so_far item g ce r m h k =
      (good_at w names (c ++ (x, a) ∷ (y, d) ∷ []) false (step_extent x y so_far item g) a e ce
      (step_covered x y e a d so_far item g r m h k)).0

  pub steps_covered : (x y : ℕ) (e : Ker) (a d : Kind) (n : ℕ) (so_far item : Shape) (g : Extent) →
      Child names (c ++ (x, a) ∷ (y, d) ∷ []) false a e →
      OfTypes names c g → mentions (without_shape g) e ≡ false → OfKind a so_far → OfKind d item →
      AllByRecursion (Covered names (c ++ (x, a) ∷ (y, d) ∷ []) e) (step_extents w (x ∷ y ∷ []) e item n so_far g)
  steps_covered x y e a d zero so_far item g ce r m h k = tt
  steps_covered x y e a d (suc n) so_far item g ce r m h k = (
    step_covered x y e a d so_far item g r m h k,
    steps_covered x y e a d n (ker_shape w e (step_extent x y so_far item g)) item g ce r m
        (step_kind x y e a d so_far item g ce r m h k) k,
  )

  pub fold_covered : (x y : ℕ) (e f q : Ker) (a d : Kind) (gs : List Extent) →
      Child names (c ++ (x, a) ∷ (y, d) ∷ []) false a e →
      Child names c false a f → Child names c false (kind.Seq d) q → AllCovered (e ∷ f ∷ q ∷ []) gs →
      AllByRecursion (Covered names (c ++ (x, a) ∷ (y, d) ∷ []) e)
      (flat_map (extents_under w ker.FoldLeft (x ∷ y ∷ []) (e ∷ f ∷ q ∷ [])) gs)
  fold_covered x y e f q a d gs ce cf cq r =
      all_flat (Covered names (c ++ (x, a) ∷ (y, d) ∷ []) e)
      (extents_under w ker.FoldLeft (x ∷ y ∷ []) (e ∷ f ∷ q ∷ [])) gs (all_to _ _ (λ g m.
      let m1 = any_first (mentions (without_shape g) e) _ m.1 in
      let m2 = any_rest (mentions (without_shape g) e) _ m.1 in
      let m3 = any_rest (mentions (without_shape g) f) _ m2 in
      steps_covered x y e a d (count (ker_shape w q g)) (ker_shape w f g) (inside (ker_shape w q g)) g ce m.0 m1
      (good_at w names c false g a f cf (m.0, any_first (mentions (without_shape g) f) _ m2)).0
      (place_kind d (ker_shape w q g) (good_at w names c false g (kind.Seq d) q cq
      (m.0, any_first (mentions (without_shape g) q) false m3)).0)) gs r)
