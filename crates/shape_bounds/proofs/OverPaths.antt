-- What is found over several paths.
use Rattle.std.proofs.Common.{◌≡◌, ℕ, zero, suc, ◌+◌, ◌-◌, ◌<◌, ◌≤◌, List, [], ◌∷◌, ◌++◌, map, take, drop, length, get_or, Option, Some, None, option_map, slice_get, refl, sym, ◌∙◌, ap, ap₂, subst, arith}
use Rattle.kernel_trees.specs.declared.path.Assigned.{Assigned}
use Rattle.kernel_trees.specs.declared.path.AssignedStep.{AssignedStep}
use Rattle.kernel_shapes.specs.declared.bounds.Shape.{Shape as Code}
use Rattle.kernel_shapes.specs.Codes.{mean}
use Rattle.kernel_shapes.specs.Levels.{Assigns, Path, after_path, after_paths, join_each, numbers_of, path_numbers}
use Rattle.kernel_shapes.specs.Shape.{Shape, join}
use Rattle.kernel_shapes.specs.Sized.{Extent, found}
use Rattle.kernel_shapes.specs.Systems.{sized_path, sized_paths}
use Rattle.shape_bounds.specs.declared.limits.Excess.{Excess}
use Rattle.shape_bounds.specs.declared.names.Names.{Names}
use Rattle.shape_bounds.specs.Excesses.{rank_of}
use Rattle.shape_bounds.specs.inner.Joined.{joined_each}
use Rattle.shape_bounds.specs.inner.Turns.{IsAgain, IsLevel}
use Rattle.shape_bounds.specs.inner.Walks.{Walks, some_shapes}
use Rattle.shape_bounds.specs.Kept.{capped}
use Rattle.shape_bounds.specs.Sizes.{Finds, Reads, bound_name, read_at}
use Rattle.shape_bounds.proofs.Composing.{finds_more, finds_none, finds_turned}
use Rattle.shape_bounds.proofs.Ending.{all_taken, mapped_end, mapped_next}
use Rattle.shape_bounds.proofs.Keeping.{capped_join}

-- ---- lists of names

pub named_more : (os : List (Option Code)) (n : ℕ) (o p : Option Code) (got new : List (Option Code)) → some_shapes got ≡ some_shapes (take n os) → n < length os → o ≡ get_or os n o →
    option_map mean p ≡ option_map mean o → new ≡ got ++ p ∷ [] → some_shapes new ≡ some_shapes (take (n + 1) os)
named_more os n o p got new h l e m f =
    let one : suc n ≡ n + 1 = omega arith in
    ap some_shapes f ∙ mapped_end (option_map mean) got p ∙ ap₂ (λ (as' : List (Option Shape)) (a : Option Shape). as' ++ a ∷ []) h m
    ∙ mapped_next (option_map mean) os n o l e ∙ ap (λ (i : ℕ). some_shapes (take i os)) one

pub named_whole : (os got : List (Option Code)) (n : ℕ) → some_shapes got ≡ some_shapes (take n os) → length os ≤ n → some_shapes got ≡ some_shapes os
named_whole os got n h l = h ∙ ap some_shapes (all_taken os n l)

pub found_more : (os : List (Option Code)) (n : ℕ) (s : Code) (got new : List Code) → map mean got ≡ map found (some_shapes (take n os)) → n < length os →
    mean s ≡ found (read_at (slice_get os n)) → new ≡ got ++ s ∷ [] → map mean new ≡ map found (some_shapes (take (n + 1) os))
found_more os n s got new h l m f =
    let one : suc n ≡ n + 1 = omega arith in
    ap (map mean) f ∙ mapped_end mean got s ∙ ap₂ (λ (as' : List Shape) (a : Shape). as' ++ a ∷ []) h m ∙ by os n l ∙ ap (λ (i : ℕ). map found (some_shapes (take i os))) one
  where
    by : (xs : List (Option Code)) (i : ℕ) → i < length xs → map found (some_shapes (take i xs)) ++ found (read_at (slice_get xs i)) ∷ [] ≡ map found (some_shapes (take (suc i) xs))
    by [] i h = absurd (omega (arith, h))
    by (x ∷ xs) zero h = refl
    by (x ∷ xs) (suc i) h = ap (λ (as' : List Shape). found (option_map mean x) ∷ as') (by xs i (omega (arith, h)))

pub found_whole : (os : List (Option Code)) (got : List Code) (n : ℕ) → map mean got ≡ map found (some_shapes (take n os)) → length os ≤ n → map mean got ≡ map found (some_shapes os)
found_whole os got n h l = h ∙ ap (λ (ps : List (Option Code)). map found (some_shapes ps)) (all_taken os n l)

each_of_one_length : (as' bs : List Shape) → length as' ≡ length bs → joined_each as' bs ≡ join_each as' bs
each_of_one_length [] [] e = refl
each_of_one_length [] (b ∷ bs) e = absurd (omega (arith, e))
each_of_one_length (a ∷ as') [] e = refl
each_of_one_length (a ∷ as') (b ∷ bs) e = ap (λ (cs : List Shape). join a b ∷ cs) (each_of_one_length as' bs (omega (arith, e)))

mapped_length : (xs : List Code) → length (map mean xs) ≡ length xs
mapped_length [] = refl
mapped_length (x ∷ xs) = ap suc (mapped_length xs)

pub found_joined : (fs us ss rs : List Code) (as' : List Shape) → map mean fs ≡ as' → us ≡ fs → length us ≡ length ss →
    map mean rs ≡ joined_each (map mean us) (map mean ss) → map mean rs ≡ join_each as' (map mean ss)
found_joined fs us ss rs as' h e l m =
    m ∙ each_of_one_length (map mean us) (map mean ss) (mapped_length us ∙ l ∙ sym (mapped_length ss))
    ∙ ap (λ (bs : List Shape). join_each bs (map mean ss)) (ap (map mean) e ∙ h)

-- ---- one path more

found_kept : (os : List (Option Shape)) → map capped (map found os) ≡ map found (map (option_map capped) os)
found_kept [] = refl
found_kept (None ∷ os) = ap (λ (as' : List Shape). found None ∷ as') (found_kept os)
found_kept (Some a ∷ os) = ap (λ (as' : List Shape). capped a ∷ as') (found_kept os)

each_kept : (as' bs : List Shape) → map capped (join_each as' bs) ≡ join_each (map capped as') (map capped bs)
each_kept [] bs = refl
each_kept (a ∷ as') [] = refl
each_kept (a ∷ as') (b ∷ bs) = ap₂ (λ (c : Shape) (cs : List Shape). c ∷ cs) (capped_join a b) (each_kept as' bs)

again_reads : (s t : Names) (first : Option Excess) (g : Extent) → s.bound.items ≡ [] → IsAgain s t first → Reads s g → Reads t g
again_reads s t first g u h l = record {
  now = l.now ∙ sym h.state;
  next = l.next ∙ sym h.next;
  bound = l.bound ∙ ap (map bound_name) (u ∙ sym h.bound);
}

pub paths_none : (s : Names) (k : Assigns) (rs : List Code) (xs : List Path) → xs ≡ [] → map mean rs ≡ map found (some_shapes s.next.items) →
    IsLevel s (after_paths k xs) (numbers_of k xs) (record { shapes = rs; first = s.first })
paths_none s k rs xs e m =
    subst (λ (ys : List Path). IsLevel s (after_paths k ys) (numbers_of k ys) (record { shapes = rs; first = s.first })) (sym e)
    (record {
      shapes = λ g l. found_kept g.next ∙ ap (map found) l.next ∙ sym m;
      finds = λ g l. finds_none s;
    })

paths_more : (s t u : Names) (k : Assigns) (p : Path) (ps : List Path) (rs vs : List Code) (first : Option Excess) → s.bound.items ≡ [] →
    IsLevel s (after_paths k ps) (numbers_of k ps) (record { shapes = rs; first = first }) → IsAgain s t first → Walks t u (after_path k p) (path_numbers k p) →
    map mean vs ≡ join_each (map found (some_shapes u.next.items)) (map mean rs) →
    IsLevel s (after_paths k (p ∷ ps)) (numbers_of k (p ∷ ps)) (record { shapes = vs; first = u.first })
paths_more s t u k p ps rs vs first b h a t-u m = record {
  shapes = λ g l.
      each_kept (map found (after_path k p g).next) (after_paths k ps g)
      ∙ ap₂ join_each (found_kept (after_path k p g).next ∙ ap (map found) (t-u.reads g (again_reads s t first g b a l)).next) (h.shapes g l) ∙ sym m;
  finds = λ g l.
      let by : Finds s t (numbers_of k ps g) = ap (option_map rank_of) a.first ∙ h.finds g l in
      finds_turned s u (numbers_of k ps g) (path_numbers k p g)
      (finds_more s t u (numbers_of k ps g) (path_numbers k p g) by (t-u.finds g (again_reads s t first g b a l)));
}

first_path : (w : ℕ) (xs : List Assigned) (n : ℕ) (x : Assigned) → n < length xs → x ≡ get_or xs n x →
    sized_path w x.steps ∷ sized_paths w (drop (suc n) xs) ≡ sized_paths w (drop n xs)
first_path w [] n x h e = absurd (omega (arith, h))
first_path w (y ∷ xs) zero x h e = ap (λ (z : Assigned). sized_path w z.steps ∷ sized_paths w xs) e
first_path w (y ∷ xs) (suc n) x h e = first_path w xs n x (omega (arith, h)) e

pub paths_next : (s t u : Names) (k : Assigns) (xs : List Assigned) (n : ℕ) (x : Assigned) (zs : List AssignedStep) (rs us vs : List Code) (first : Option Excess) → s.bound.items ≡ [] →
    IsLevel s (after_paths k (sized_paths s.width (drop n xs))) (numbers_of k (sized_paths s.width (drop n xs))) (record { shapes = rs; first = first }) →
    n ≡ suc (n - 1) → n - 1 < length xs → x ≡ get_or xs (n - 1) x → zs ≡ x.steps → IsAgain s t first →
    Walks t u (after_path k (sized_path t.width zs)) (path_numbers k (sized_path t.width zs)) → us ≡ rs →
    map mean vs ≡ join_each (map found (some_shapes u.next.items)) (map mean us) →
    IsLevel s (after_paths k (sized_paths s.width (drop (n - 1) xs))) (numbers_of k (sized_paths s.width (drop (n - 1) xs))) (record { shapes = vs; first = u.first })
paths_next s t u k xs n x zs rs us vs first b h one less e z a w f m =
    let d : Walks t u (after_path k (sized_path s.width x.steps)) (path_numbers k (sized_path s.width x.steps)) =
    subst (λ (p : Path). Walks t u (after_path k p) (path_numbers k p)) (ap₂ sized_path a.width z) w in
    subst (λ (ps : List Path). IsLevel s (after_paths k ps) (numbers_of k ps) (record { shapes = vs; first = u.first })) (first_path s.width xs (n - 1) x less e)
    (paths_more s t u k (sized_path s.width x.steps) (sized_paths s.width (drop (suc (n - 1)) xs)) rs vs first b
    (subst (λ (i : ℕ). IsLevel s (after_paths k (sized_paths s.width (drop i xs))) (numbers_of k (sized_paths s.width (drop i xs))) (record { shapes = rs; first = first })) one h) a d
    (m ∙ ap (λ (cs : List Code). join_each (map found (some_shapes u.next.items)) (map mean cs)) f))

pub no_paths : (w : ℕ) (xs : List Assigned) → sized_paths w (drop (length xs) xs) ≡ []
no_paths w [] = refl
no_paths w (x ∷ xs) = no_paths w xs
