-- Shapes whose numbers are kept, and the bounds by them.
use Rattle.std.proofs.Common.{◌≡◌, ℕ, ℤ, ◌+◌, ◌<◌, ◌≤◌, IsTrue, List, [], ◌∷◌, ◌++◌, map, false, Option, Some, None, option_map, refl, sym, ◌∙◌, ap, ap₂, subst, arith}
use Rattle.kernel_shapes.specs.declared.bounds.Shape.{Shape as Code, Atom as atom, Num as num, Set as set, Fun as function, Rec as record_of, Tup as tuple, Seq as sequence, Empty as empty}
use Rattle.kernel_shapes.specs.Codes.{mean}
use Rattle.kernel_shapes.specs.Shape.{Shape, Atom, Num, Set, Fun, Rec, Tup, Seq, Empty, Shapes, shapes, more_shapes}
use Rattle.kernel_shapes.specs.Sized.{Extent}
use Rattle.shape_bounds.specs.Kept.{capped, capped_items, greatest_kept, kept}
use Rattle.shape_bounds.specs.Sizes.{bound_name, kept_name}
use Rattle.shape_bounds.specs.Extents.{extent_of, given_shape, given_shapes, kept_extent}
use Rattle.shape_bounds.specs.BoundedTrees.{HasBounds}
use Rattle.shape_bounds.proofs.Means.{mean-Atom, mean-Num, mean-Set, mean-Fun, mean-Rec, mean-Tup, mean-Seq, mean-Empty}
use Rattle.kernel_trees.specs.declared.kernel.Ker.{Ker}
use Rattle.kernel_trees.specs.declared.system.KerJob.{KerJob}
use Rattle.rewriting_tests.specs.Cases.{IsSoundIn}
use Rattle.rewriting_tests.specs.inner.KeptShapes.{AreFieldsKept, AreKept, IsKept}

kept-small : (n : ℕ) → n < 18446744073709551616 → kept n ≡ n
kept-small n h = omega (arith, h)

by_mean : (a : Code) (x : Shape) → mean a ≡ x → capped x ≡ x → IsKept a
by_mean a x e h = ap capped e ∙ h ∙ sym e

pub kept-atom : IsKept atom
kept-atom = by_mean atom Atom mean-Atom refl

pub kept-num : (a b : ℤ) → IsKept (num a b)
kept-num a b = by_mean (num a b) (Num a b) (mean-Num a b) refl

pub kept-empty : IsKept empty
kept-empty = by_mean empty Empty mean-Empty refl

pub kept-set : (n : ℕ) (a : Code) → n < 18446744073709551616 → IsKept a → IsKept (set n a)
kept-set n a le h = by_mean (set n a) (Set n (mean a)) (mean-Set n a) (ap₂ (λ (m : ℕ) (x : Shape). Set m x) (kept-small n le) h)

pub kept-seq : (n : ℕ) (a : Code) → n < 18446744073709551616 → IsKept a → IsKept (sequence n a)
kept-seq n a le h = by_mean (sequence n a) (Seq n (mean a)) (mean-Seq n a) (ap₂ (λ (m : ℕ) (x : Shape). Seq m x) (kept-small n le) h)

pub kept-function : (n : ℕ) (a b : Code) → n < 18446744073709551616 → IsKept a → IsKept b → IsKept (function n a b)
kept-function n a b le h g =
    by_mean (function n a b) (Fun n (mean a) (mean b)) (mean-Fun n a b)
    (ap₂ (λ (m : ℕ) (x : Shape). Fun m x (capped (mean b))) (kept-small n le) h ∙ ap (λ (y : Shape). Fun n (mean a) y) g)

items_kept : (as' : List Code) → AreKept as' → capped_items (shapes (map mean as')) ≡ shapes (map mean as')
items_kept [] h = refl
items_kept (a ∷ as') h = ap₂ (λ (x : Shape) (xs : Shapes). more_shapes x xs) h.0 (items_kept as' h.1)

pub kept-tuple : (as' : List Code) → AreKept as' → IsKept (tuple as')
kept-tuple as' h =
    by_mean (tuple as') (Tup (shapes (map mean as'))) (mean-Tup as') (ap (λ (xs : Shapes). Tup xs) (items_kept as' h))

fields_kept : (fs : List (List ℕ × Code)) → AreFieldsKept fs →
    capped_items (shapes (map (λ (f : List ℕ × Code). mean f.1) fs)) ≡ shapes (map (λ (f : List ℕ × Code). mean f.1) fs)
fields_kept [] h = refl
fields_kept (f ∷ fs) h = ap₂ (λ (x : Shape) (xs : Shapes). more_shapes x xs) h.0 (fields_kept fs h.1)

pub kept-record : (fs : List (List ℕ × Code)) → AreFieldsKept fs → IsKept (record_of fs)
kept-record fs h =
    by_mean (record_of fs) (Rec (map (λ (f : List ℕ × Code). f.0) fs) (shapes (map (λ (f : List ℕ × Code). mean f.1) fs))) (mean-Rec fs)
    (ap (λ (xs : Shapes). Rec (map (λ (f : List ℕ × Code). f.0) fs) xs) (fields_kept fs h))

-- ---- lists, pushed

pub kept-none : (as' : List Code) → as' ≡ [] → AreKept as'
kept-none as' e = subst AreKept (sym e) tt

push_kept : (as' : List Code) (a : Code) → AreKept as' → IsKept a → AreKept (as' ++ a ∷ [])
push_kept [] a h one = (one, tt)
push_kept (b ∷ as') a h one = (h.0, push_kept as' a h.1 one)

pub kept-more : (as' after : List Code) (a : Code) → AreKept as' → IsKept a → after ≡ as' ++ a ∷ [] → AreKept after
kept-more as' after a h one e = subst AreKept (sym e) (push_kept as' a h one)

pub fields-none : (fs : List (List ℕ × Code)) → fs ≡ [] → AreFieldsKept fs
fields-none fs e = subst AreFieldsKept (sym e) tt

push_field_kept : (fs : List (List ℕ × Code)) (f : List ℕ × Code) → AreFieldsKept fs → IsKept f.1 → AreFieldsKept (fs ++ f ∷ [])
push_field_kept [] f h one = (one, tt)
push_field_kept (g ∷ fs) f h one = (h.0, push_field_kept fs f h.1 one)

pub fields-more : (fs after : List (List ℕ × Code)) (f : List ℕ × Code) → AreFieldsKept fs → IsKept f.1 →
    after ≡ fs ++ f ∷ [] → AreFieldsKept after
fields-more fs after f h one e = subst AreFieldsKept (sym e) (push_field_kept fs f h one)

-- ---- extents

given_kept : (x : Shape) → capped x ≡ x → option_map capped (given_shape x) ≡ given_shape x
given_kept Empty h = refl
given_kept x h = ap (λ (y : Shape). Some y) h

names_kept : (as' : List Code) → AreKept as' → map (option_map capped) (given_shapes as') ≡ given_shapes as'
names_kept [] h = refl
names_kept (a ∷ as') h =
    ap₂ (λ (x : Option Shape) (xs : List (Option Shape)). x ∷ xs) (given_kept (mean a) h.0) (names_kept as' h.1)

abbrev extent : List (Option Shape) → List (List ℕ × Shape) → Extent
extent xs bs = record { now = xs; next = xs; bound = bs }

pub extent-kept : (as' : List Code) (bound : List (ℕ × Code)) → AreKept as' → bound ≡ [] →
    kept_extent (extent_of as' as' bound) ≡ extent_of as' as' bound
extent-kept as' bound h e =
    let names = names_kept as' h in
    let none : map kept_name (map bound_name bound) ≡ map bound_name bound =
    subst (λ (bs : List (ℕ × Code)). map kept_name (map bound_name bs) ≡ map bound_name bs) (sym e) refl in
    ap₂ extent names none

-- a tree with bounds by such shapes is sound where the tree is
pub stays-sound : (w : ℕ) (job : KerJob) (k r : Ker) (as' : List Code) (bound : List (ℕ × Code)) → AreKept as' → bound ≡ [] →
    ((g : Extent) → kept_extent g ≡ extent_of as' as' bound → HasBounds w k g r) → IsSoundIn job k → IsSoundIn job r
stays-sound w job k r as' bound h e has s =
    let bounds = has (extent_of as' as' bound) (extent-kept as' bound h e) in
    record { names = s.names; kinds = s.kinds; sound = bounds.stays_sound s.names [] false s.sound }
