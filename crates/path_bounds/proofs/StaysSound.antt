-- A path with bounds is sound where the path is.
use Rattle.std.proofs.Common.{◌≡◌, ℕ, Bool, true, false, ◌&&◌, List, [], ◌∷◌, ◌++◌, map, zip, Option, Some, None, option_map, option_and_then, refl, sym, ◌∙◌, ap, ap₂, subst}
use Rattle.std.specs.Prelude.{slice_get}
use Rattle.tla_meaning.specs.declared.place.Place.{Place}
use Rattle.tla_meaning.proofs.Views.{false≢true}
use Rattle.kernel_trees.specs.declared.kernel.Ker.{Ker}
use Rattle.kernel_trees.specs.declared.kernel.KerOp.{KerOp}
use Rattle.kernel_trees.specs.declared.kernel.KerOp.TheVariants as ker
use Rattle.kernel_trees.specs.declared.path.AssignedStep.{AssignedStep}
use Rattle.kernel_trees.specs.declared.path.AssignedStep.TheVariants as mark
use Rattle.kernel_trees.specs.Paths.{numbers}
use Rattle.kernel_trees.specs.Sound.{Context, infinite_at, infinite_places, is_finite, is_nil, kind_at, passes, picked_kinds, sound, sound_assigned, sound_guard, sound_pick}
use Rattle.kernel_trees.specs.TypeKinds.{Kind, Set, Truth, all_there, is_kind, members}
use Rattle.kernel_trees.proofs.SoundNodes.{infinite-roll}
use Rattle.kernel_trees.proofs.SoundWider.{and_mono}
use Rattle.kernel_trees.proofs.Trees.{by_nodes}
use Rattle.kernel_shapes.specs.Levels.{Assigns}
use Rattle.kernel_shapes.specs.Shape.{Shape}
use Rattle.kernel_shapes.specs.Sized.{Extent}
use Rattle.tree_bounds.specs.Bounded.{with_bounds, with_ends}
use Rattle.tree_bounds.proofs.SameExpressions.{Stays, bounds_node, each_stays}
use Rattle.tree_bounds.proofs.SoundBounds.{each_stays_sound, same_type}
use Rattle.path_bounds.specs.BoundedPaths.{bounded_steps, past}
use Rattle.path_bounds.proofs.SameEffects.{bounded_sets, numbers_same}

-- ---- infinite forms

-- a range has none
infinite_ends : (o : KerOp) (p : Place) (a : Shape) (ks : List Ker) →
    infinite_at o p (map infinite_places (with_ends o p a ks)) ≡ infinite_at o p (map infinite_places ks)
infinite_ends ker.Range p a ks = refl
infinite_ends o p a ks = refl

same_infinite : (n : ℕ) (k : Ker) → Stays n infinite_places k
same_infinite n = by_nodes (Stays n infinite_places) (λ x h gs.
    ap infinite_places (bounds_node n x gs)
    ∙ infinite-roll _
    ∙ infinite_ends x.op x.place _ _
    ∙ ap (infinite_at x.op x.place) (each_stays n infinite_places _ gs _ x.args h)
    ∙ sym (infinite-roll x))

same_finite : (n : ℕ) (k : Ker) (gs : List Extent) → is_finite (with_bounds n k gs) ≡ is_finite k
same_finite n k gs = ap is_nil (same_infinite n k gs)

-- ---- picks

kinds_same : (w : ℕ) (g : Extent) (ps : List (ℕ × Ker)) →
    all_there (map (λ (p : ℕ × Ker). kind_at p.1) (bounded_sets w g ps)) ≡ all_there (map (λ (p : ℕ × Ker). kind_at p.1) ps)
kinds_same w g [] = refl
kinds_same w g (p ∷ ps) =
    ap₂ (λ (o : Option Kind) (os : Option (List Kind)). option_and_then (λ x. option_map (λ xs. x ∷ xs) os) o) (same_type w p.1 (g ∷ [])) (kinds_same w g ps)

pick_stays : (w : ℕ) (g : Extent) (names : List Kind) (c : Context) (ps : List (ℕ × Ker)) → sound_pick names c ps ≡ true → sound_pick names c (bounded_sets w g ps) ≡ true
pick_stays w g names c [] h = refl
pick_stays w g names c (p ∷ ps) h =
    and_mono (sound names p.1 c false) (sound_pick names c ps) (sound names (with_bounds w p.1 (g ∷ [])) c false) (sound_pick names c (bounded_sets w g ps))
    (each_stays_sound w names p.1 c false (g ∷ [])) (pick_stays w g names c ps) h

passes_for : {X : Type 0} (f g : X → Bool) (o q : Option X) → q ≡ o → ((x : X) → f x ≡ true → g x ≡ true) → passes f o ≡ true → passes g q ≡ true
passes_for f g None q e h t = absurd (false≢true t)
passes_for f g (Some x) q e h t = ap (passes g) e ∙ h x t

-- ---- steps

pub stays_sound : (w : ℕ) (a : Assigns) (names : List Kind) (c : Context) (zs : List AssignedStep) (g : Extent) → sound_assigned names c zs ≡ true →
    sound_assigned names c (bounded_steps w a zs g) ≡ true
stays_sound w a names c [] g h = refl
stays_sound w a names c (mark.Guard k b ∷ zs) g h =
    let r : Ker = with_bounds w k (g ∷ []) in
    and_mono (sound_guard names c k) (sound_assigned names c zs) (sound_guard names c r) (sound_assigned names c (bounded_steps w a zs g))
    (and_mono (is_kind Truth (kind_at k)) (sound names k c false) (is_kind Truth (kind_at r)) (sound names r c false)
    (λ e. ap (is_kind Truth) (same_type w k (g ∷ [])) ∙ e) (each_stays_sound w names k c false (g ∷ [])))
    (stays_sound w a names c zs g) h
stays_sound w a names c (mark.Pick ps ∷ zs) g h =
    let qs : List (ℕ × Ker) = bounded_sets w g ps in
    let f : Extent = past w a (mark.Pick ps) g in
    let before : List Kind → Bool = λ ms. sound_assigned names (c ++ zip (numbers ps) ms) zs in
    let behind : List Kind → Bool = λ ms. sound_assigned names (c ++ zip (numbers qs) ms) (bounded_steps w a zs f) in
    and_mono (sound_pick names c ps) (passes before (picked_kinds ps)) (sound_pick names c qs) (passes behind (picked_kinds qs))
    (pick_stays w g names c ps)
    (passes_for before behind (picked_kinds ps) (picked_kinds qs) (ap (option_and_then members) (kinds_same w g ps))
    (λ ms e. subst (λ (ns : List ℕ). sound_assigned names (c ++ zip ns ms) (bounded_steps w a zs f) ≡ true) (sym (numbers_same w g ps))
    (stays_sound w a names (c ++ zip (numbers ps) ms) zs f e))) h
stays_sound w a names c (mark.Equals i k ∷ zs) g h =
    let r : Ker = with_bounds w k (g ∷ []) in
    let typed : Option Kind → Bool = λ o. passes (λ d. is_kind d o) (slice_get names i) in
    and_mono (typed (kind_at k) && sound names k c false) (sound_assigned names c zs) (typed (kind_at r) && sound names r c false)
    (sound_assigned names c (bounded_steps w a zs (past w a (mark.Equals i k) g)))
    (and_mono (typed (kind_at k)) (sound names k c false) (typed (kind_at r)) (sound names r c false)
    (λ e. ap typed (same_type w k (g ∷ [])) ∙ e) (each_stays_sound w names k c false (g ∷ [])))
    (stays_sound w a names c zs (past w a (mark.Equals i k) g)) h
stays_sound w a names c (mark.Among i k ∷ zs) g h =
    let r : Ker = with_bounds w k (g ∷ []) in
    let typed : Option Kind → Bool = λ o. passes (λ d. is_kind (Set d) o) (slice_get names i) in
    and_mono ((typed (kind_at k) && is_finite k) && sound names k c true) (sound_assigned names c zs)
    ((typed (kind_at r) && is_finite r) && sound names r c true)
    (sound_assigned names c (bounded_steps w a zs (past w a (mark.Among i k) g)))
    (and_mono (typed (kind_at k) && is_finite k) (sound names k c true) (typed (kind_at r) && is_finite r) (sound names r c true)
    (and_mono (typed (kind_at k)) (is_finite k) (typed (kind_at r)) (is_finite r) (λ e. ap typed (same_type w k (g ∷ [])) ∙ e)
    (λ e. same_finite w k (g ∷ []) ∙ e)) (each_stays_sound w names k c true (g ∷ [])))
    (stays_sound w a names c zs (past w a (mark.Among i k) g)) h
