-- Parts whose paths are sized alike have the same shapes and the same refusal at each level.
use Rattle.std.proofs.Common.{◌≡◌, ℕ, zero, suc, Bool, true, false, ℤ, List, [], ◌∷◌, ◌++◌, map, length, Option, Some, None, option_map, refl, sym, ◌∙◌, ap, ap₂, subst, arith}
use Rattle.tla_meaning.proofs.Views.{false≢true}
use Rattle.kernel_trees.specs.Paths.{Marks}
use Rattle.kernel_trees.specs.TypeKinds.{Kind}
use Rattle.kernel_shapes.specs.Counts.{Count, Rank, either_rank, first_rank, refusal, refused_at}
use Rattle.kernel_shapes.specs.Levels.{Assigns, Path, Parts, in_next, in_state, after_path, after_paths, at_names, at_state, constant_shapes, first_refusal, from_state, invariant_numbers, join_each, kept_constants, level_numbers, next_shapes, no_names, numbers_of, path_numbers, refused, refused_typed, shapes_at, start_numbers, start_shapes, step_numbers_at, the_constants, typed_numbers}
use Rattle.kernel_shapes.specs.Shape.{Shape}
use Rattle.kernel_shapes.specs.Sized.{Extent, Sizing, found, walked}
use Rattle.kernel_shapes.specs.TypedExtents.{NamesOfKinds, OfTypes}
use Rattle.kernel_shapes.specs.TypedStates.{EachOfKind, shape_of_kind, typed_first, typed_shapes}
use Rattle.kernel_shapes.proofs.KindLaw.{typed_kind}
use Rattle.kernel_shapes.proofs.LevelLaw.{found_kinds, joined_kinds, kept_kinds}
use Rattle.kernel_shapes.proofs.Refusals.{rank_append}
use Rattle.kernel_reduction.specs.JobSizes.{HasSameRefusal, HasSameShapes, HasSameTypedRefusal}
use Rattle.kernel_reduction.specs.inner.SameWays.{Pairs}
use Rattle.kernel_reduction.proofs.SizedPaths.{SamePath}

module _ (names : List Kind) where
  -- ---- paths beside each other

  abbrev pub SamePaths : Assigns → List Path → List Path → Type 0
  SamePaths how ps qs = (g : Extent) → OfTypes names [] g → Pairs (λ p q. SamePath how names p q g) ps qs

  numbers_same : (how : Assigns) (ps qs : List Path) (g : Extent) → Pairs (λ p q. SamePath how names p q g) ps qs → first_rank (numbers_of how ps g) ≡ first_rank (numbers_of how qs g)
  numbers_same how [] [] g h = refl
  numbers_same how [] (q ∷ qs) g h = absurd h
  numbers_same how (p ∷ ps) [] g h = absurd h
  numbers_same how (p ∷ ps) (q ∷ qs) g h =
      rank_append (path_numbers how p g) (numbers_of how ps g) ∙ ap₂ either_rank h.0.ranks (numbers_same how ps qs g h.1)
      ∙ sym (rank_append (path_numbers how q g) (numbers_of how qs g))

  ends_same : (how : Assigns) (ps qs : List Path) (g : Extent) → Pairs (λ p q. SamePath how names p q g) ps qs → after_paths how ps g ≡ after_paths how qs g
  ends_same how [] [] g h = refl
  ends_same how [] (q ∷ qs) g h = absurd h
  ends_same how (p ∷ ps) [] g h = absurd h
  ends_same how (p ∷ ps) (q ∷ qs) g h = ap₂ (λ (k : Extent) (as' : List Shape). join_each (map found k.next) as') h.0.ends (ends_same how ps qs g h.1)

  ends_kinds : (how : Assigns) (ps qs : List Path) (g : Extent) → OfTypes names [] g → Pairs (λ p q. SamePath how names p q g) ps qs → EachOfKind names (after_paths how qs g)
  ends_kinds how [] [] g r h = found_kinds names g.next r.next
  ends_kinds how [] (q ∷ qs) g r h = absurd h
  ends_kinds how (p ∷ ps) [] g r h = absurd h
  ends_kinds how (p ∷ ps) (q ∷ qs) g r h =
      joined_kinds names (map found (after_path how q g).next) (after_paths how qs g) (found_kinds names (after_path how q g).next h.0.kinds) (ends_kinds how ps qs g r h.1)

  -- ---- parts

  pub record SameParts (p q : Parts) : Type 0 where
    pub fixed : p.fixed ≡ q.fixed
    pub many : length q.fixed ≡ length names
    pub constants : SamePaths in_state p.constants q.constants
    pub assume : (g : Extent) → OfTypes names [] g → g.bound ≡ [] → first_rank ((p.assume g).counts walked) ≡ first_rank ((q.assume g).counts walked)
    pub start : SamePaths in_state p.start q.start
    pub next : SamePaths in_next p.next q.next
    pub invariants : (g : Extent) → OfTypes names [] g → g.bound ≡ [] → first_rank (invariant_numbers p.invariants g) ≡ first_rank (invariant_numbers q.invariants g)

  now_kinds : (ks : List Kind) (as' : List Shape) → EachOfKind ks as' → NamesOfKinds ks (map (λ a. Some a) as')
  now_kinds [] [] h = tt
  now_kinds [] (a ∷ as') h = absurd h
  now_kinds (k ∷ ks) [] h = absurd h
  now_kinds (k ∷ ks) (a ∷ as') h = (h.0, now_kinds ks as' h.1)

  none_kinds : (ks : List Kind) (bs : List Bool) → length bs ≡ length ks → NamesOfKinds ks (map (λ b. None) bs)
  none_kinds [] [] h = tt
  none_kinds [] (b ∷ bs) h = absurd (none (length bs) h)
    where
      none : (n : ℕ) → suc n ≡ 0 → ⊥
      none n q = omega (arith, q)
  none_kinds (k ∷ ks) [] h = absurd (none (length ks) h)
    where
      none : (n : ℕ) → 0 ≡ suc n → ⊥
      none n q = omega (arith, q)
  none_kinds (k ∷ ks) (b ∷ bs) h = none_kinds ks bs (less (length bs) (length ks) h)
    where
      less : (m n : ℕ) → suc m ≡ suc n → m ≡ n
      less m n q = omega (arith, q)

  state_types : (as' : List Shape) → EachOfKind names as' → OfTypes names [] (at_state as')
  state_types as' h = record { now = now_kinds names as' h; next = now_kinds names as' h; bound = tt }

  typed_kinds : (low high : ℤ) (size : ℕ) (bs : List Bool) (as' : List Shape) (ks : List Kind) → length bs ≡ length ks → EachOfKind ks as' → EachOfKind ks (typed_shapes low high size bs as' ks)
  typed_kinds low high size [] [] [] e h = tt
  typed_kinds low high size [] (a ∷ as') [] e h = absurd h
  typed_kinds low high size [] as' (k ∷ ks) e h = absurd (none (length ks) e)
    where
      none : (n : ℕ) → 0 ≡ suc n → ⊥
      none n q = omega (arith, q)
  typed_kinds low high size (b ∷ bs) as' [] e h = absurd (none (length bs) e)
    where
      none : (n : ℕ) → suc n ≡ 0 → ⊥
      none n q = omega (arith, q)
  typed_kinds low high size (b ∷ bs) [] (k ∷ ks) e h = absurd h
  typed_kinds low high size (true ∷ bs) (a ∷ as') (k ∷ ks) e h = (h.0, typed_kinds low high size bs as' ks (less (length bs) (length ks) e) h.1)
    where
      less : (m n : ℕ) → suc m ≡ suc n → m ≡ n
      less m n q = omega (arith, q)
  typed_kinds low high size (false ∷ bs) (a ∷ as') (k ∷ ks) e h = (typed_kind low high size k, typed_kinds low high size bs as' ks (less (length bs) (length ks) e) h.1)
    where
      less : (m n : ℕ) → suc m ≡ suc n → m ≡ n
      less m n q = omega (arith, q)

  module _ (p q : Parts) (s : SameParts p q) where
    kept_types : (as' : List Shape) → EachOfKind names as' → OfTypes names [] (at_names (kept_constants q.fixed as'))
    kept_types as' h = record { now = kept_kinds q.fixed names as' s.many h; next = kept_kinds q.fixed names as' s.many h; bound = tt }

    from_types : (as' : List Shape) → EachOfKind names as' → OfTypes names [] (from_state q.fixed as')
    from_types as' h = record { now = now_kinds names as' h; next = kept_kinds q.fixed names as' s.many h; bound = tt }

    -- ---- the start

    no_types : OfTypes names [] (no_names q)
    no_types = record { now = none_kinds names q.fixed s.many; next = none_kinds names q.fixed s.many; bound = tt }

    same_none : no_names p ≡ no_names q
    same_none = ap (λ (bs : List Bool). at_names (map (λ b. None) bs)) s.fixed

    constants_same : constant_shapes p ≡ constant_shapes q
    constants_same = ap (after_paths in_state p.constants) same_none ∙ ends_same in_state p.constants q.constants (no_names q) (s.constants (no_names q) no_types)

    constants_kinds : EachOfKind names (constant_shapes q)
    constants_kinds = ends_kinds in_state p.constants q.constants (no_names q) no_types (s.constants (no_names q) no_types)

    same_constants : the_constants p ≡ the_constants q
    same_constants = ap₂ (λ (bs : List Bool) (as' : List Shape). at_names (kept_constants bs as')) s.fixed constants_same

    constants_types : OfTypes names [] (the_constants q)
    constants_types = kept_types (constant_shapes q) constants_kinds

    start_same : start_shapes p ≡ start_shapes q
    start_same = ap (after_paths in_state p.start) same_constants ∙ ends_same in_state p.start q.start (the_constants q) (s.start (the_constants q) constants_types)

    start_kinds : EachOfKind names (start_shapes q)
    start_kinds = ends_kinds in_state p.start q.start (the_constants q) constants_types (s.start (the_constants q) constants_types)

    typed_numbers_same : first_rank (typed_numbers p) ≡ first_rank (typed_numbers q)
    typed_numbers_same =
        rank_append (numbers_of in_state p.constants (no_names p)) ((p.assume (the_constants p)).counts walked)
        ∙ ap₂ either_rank
        (ap (λ (g : Extent). first_rank (numbers_of in_state p.constants g)) same_none ∙ numbers_same in_state p.constants q.constants (no_names q) (s.constants (no_names q) no_types))
        (ap (λ (g : Extent). first_rank ((p.assume g).counts walked)) same_constants ∙ s.assume (the_constants q) constants_types refl)
        ∙ sym (rank_append (numbers_of in_state q.constants (no_names q)) ((q.assume (the_constants q)).counts walked))

    start_numbers_same : first_rank (start_numbers p) ≡ first_rank (start_numbers q)
    start_numbers_same =
        rank_append (typed_numbers p) (numbers_of in_state p.start (the_constants p))
        ∙ ap₂ either_rank typed_numbers_same
        (ap (λ (g : Extent). first_rank (numbers_of in_state p.start g)) same_constants ∙ numbers_same in_state p.start q.start (the_constants q) (s.start (the_constants q) constants_types))
        ∙ sym (rank_append (typed_numbers q) (numbers_of in_state q.start (the_constants q)))

    -- ---- levels

    module _ (first : List Shape) (f : EachOfKind names first) where
      next_same : (as' : List Shape) → EachOfKind names as' → next_shapes p as' ≡ next_shapes q as'
      next_same as' h =
          ap (λ (bs : List Bool). after_paths in_next p.next (from_state bs as')) s.fixed
          ∙ ends_same in_next p.next q.next (from_state q.fixed as') (s.next (from_state q.fixed as') (from_types as' h))

      shapes_kinds : (n : ℕ) → EachOfKind names (shapes_at q first n)
      shapes_kinds zero = f
      shapes_kinds (suc n) =
          let as' : List Shape = shapes_at q first n in
          let r : OfTypes names [] (from_state q.fixed as') = from_types as' (shapes_kinds n) in
          ends_kinds in_next p.next q.next (from_state q.fixed as') r (s.next (from_state q.fixed as') r)

      shapes_same : (n : ℕ) → shapes_at p first n ≡ shapes_at q first n
      shapes_same zero = refl
      shapes_same (suc n) = ap (next_shapes p) (shapes_same n) ∙ next_same (shapes_at q first n) (shapes_kinds n)

      module _ (cs ds : List Count) (c : first_rank cs ≡ first_rank ds) where
        step_same : (n : ℕ) → first_rank (step_numbers_at p cs first n) ≡ first_rank (step_numbers_at q ds first n)
        step_same zero = c
        step_same (suc n) =
            let as' : List Shape = shapes_at q first n in
            ap₂ (λ (bs : List Bool) (l : List Shape). first_rank (numbers_of in_next p.next (from_state bs l))) s.fixed (shapes_same n)
            ∙ numbers_same in_next p.next q.next (from_state q.fixed as') (s.next (from_state q.fixed as') (from_types as' (shapes_kinds n)))

        level_same : (n : ℕ) → refusal (level_numbers p cs first n) ≡ refusal (level_numbers q ds first n)
        level_same n =
            let as' : List Shape = shapes_at q first n in
            ap (option_map refused_at)
            (rank_append (step_numbers_at p cs first n) (invariant_numbers p.invariants (at_state (shapes_at p first n)))
            ∙ ap₂ either_rank (step_same n)
            (ap (λ (l : List Shape). first_rank (invariant_numbers p.invariants (at_state l))) (shapes_same n) ∙ s.invariants (at_state as') (state_types as' (shapes_kinds n)) refl)
            ∙ sym (rank_append (step_numbers_at q ds first n) (invariant_numbers q.invariants (at_state as'))))

        refusals_same : (n m : ℕ) → first_refusal p cs first n m ≡ first_refusal q ds first n m
        refusals_same n zero = refl
        refusals_same n (suc m) =
            ap (λ (o : Option Count). elim o [
              | Some c ↦ Some (n, c)
              | None ↦ first_refusal p cs first (suc n) m
            ]) (level_same n)
            ∙ ap (λ (r : Option (ℕ × Count)). elim (refusal (level_numbers q ds first n)) [
              | Some c ↦ Some (n, c)
              | None ↦ r
            ]) (refusals_same (suc n) m)

    pub all_shapes_same : (n : ℕ) → HasSameShapes p q n
    all_shapes_same n = ap (λ (l : List Shape). shapes_at p l n) start_same ∙ shapes_same (start_shapes q) start_kinds n

    pub all_refused_same : (n : ℕ) → HasSameRefusal p q n
    all_refused_same n =
        ap (λ (l : List Shape). first_refusal p (start_numbers p) l 0 (suc n)) start_same
        ∙ refusals_same (start_shapes q) start_kinds (start_numbers p) (start_numbers q) start_numbers_same 0 (suc n)

    pub all_typed_same : (low high : ℤ) (size : ℕ) → HasSameTypedRefusal p q low high size names
    all_typed_same low high size =
        let first : List Shape = typed_first low high size q names in
        ap (λ (l : List Shape). first_refusal p (typed_numbers p) l 0 2) (ap₂ (λ (bs : List Bool) (as' : List Shape). typed_shapes low high size bs as' names) s.fixed constants_same)
        ∙ refusals_same first (typed_kinds low high size q.fixed (constant_shapes q) names s.many constants_kinds) (typed_numbers p) (typed_numbers q) typed_numbers_same 0 2
