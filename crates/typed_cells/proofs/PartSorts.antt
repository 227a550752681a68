-- The sorts of records and tuples by those of their parts, and those of kinds.
use Rattle.std.proofs.Common.{◌≡◌, ℕ, zero, suc, ◌<◌, Bool, true, false, List, [], ◌∷◌, length, map, get_or, All}
use Rattle.std.proofs.Common.{refl, ◌∙◌, ap, ap₂, subst, arith, if◌then◌else◌, zip}
use Rattle.std.specs.Ordering.{is_lt}
use Rattle.tla_values.specs.Order.{text_cmp}
use Rattle.cell_arena.specs.declared.build.Build.{Build}
use Rattle.cell_arena.specs.declared.kinds.CellId.{CellId}
use Rattle.cell_arena.specs.declared.kinds.CellKind.{CellKind}
use Rattle.cell_arena.specs.Growth.{Grows}
use Rattle.cell_merge.specs.Sorts.{ArePlaced, OfSort, Sort}
use Rattle.cell_merge.proofs.Edges.{sort-there}
use Rattle.cell_merge.proofs.SortLaws.{OfSort-later}
use Rattle.kernel_trees.specs.TypeKinds.{Fields, Kind, fields, insert_field, kinds, more_fields, no_fields}
use Rattle.typed_cells.specs.FieldOrder.{in_order, put_field}
use Rattle.typed_cells.specs.KindSorts.{OfSorts, field_sorts, item_sorts, sort_at, sort_of}

abbrev Field : Type 0
Field = List ℕ × CellId

abbrev Named : Type 0
Named = List ℕ × Sort

-- ---- lists of cells

pub sorts-count : (ks : List CellKind) (ss : List Sort) (xs : List CellId) → OfSorts ks ss xs → length xs ≡ length ss
sorts-count ks [] [] h = refl
sorts-count ks [] (x ∷ xs) h = absurd (h)
sorts-count ks (s ∷ ss) [] h = absurd (h)
sorts-count ks (s ∷ ss) (x ∷ xs) h = ap suc (sorts-count ks ss xs h.1)

sorts-at : (ks : List CellKind) (ss : List Sort) (xs : List CellId) → OfSorts ks ss xs → (i : ℕ) (d : CellId) →
    i < length ss → OfSort ks (sort_at ss i) (get_or xs i d)
sorts-at ks [] [] h i d lt = absurd (omega arith)
sorts-at ks [] (x ∷ xs) h i d lt = absurd (h)
sorts-at ks (s ∷ ss) [] h i d lt = absurd (h)
sorts-at ks (s ∷ ss) (x ∷ xs) h zero d lt = h.0
sorts-at ks (s ∷ ss) (x ∷ xs) h (suc i) d lt = sorts-at ks ss xs h.1 i d (omega arith)

pub sorts-placed : (ks : List CellKind) (ss : List Sort) (xs : List CellId) → OfSorts ks ss xs →
    ArePlaced (length ss) (λ i. OfSort ks (sort_at ss i)) xs
sorts-placed ks ss xs h = (sorts-count ks ss xs h, λ i d lt. sorts-at ks ss xs h i d lt)

-- cells of sorts are there
pub sorts-there : (ks : List CellKind) (ss : List Sort) (xs : List CellId) → OfSorts ks ss xs →
    All (λ x. x.index < length ks) xs
sorts-there ks ss xs h = λ i d lt.
    let n = sorts-count ks ss xs h in
    sort-there ks (sort_at ss i) (get_or xs i d) (sorts-at ks ss xs h i d (omega arith))

pub OfSorts-later : (b c : Build) (ss : List Sort) (xs : List CellId) → OfSorts b.arena.kinds ss xs → Grows b c →
    OfSorts c.arena.kinds ss xs
OfSorts-later b c [] [] h g = tt
OfSorts-later b c [] (x ∷ xs) h g = absurd (h)
OfSorts-later b c (s ∷ ss) [] h g = absurd (h)
OfSorts-later b c (s ∷ ss) (x ∷ xs) h g = (OfSort-later b c s x h.0 g, OfSorts-later b c ss xs h.1 g)

-- ---- fields

-- of each name a cell of its sort, in the same order
abbrev AreFields : List CellKind → List Named → List Field → Type 0
AreFields ks [] [] = Unit {0}
AreFields ks [] (f ∷ fs) = ⊥
AreFields ks (s ∷ ss) [] = ⊥
AreFields ks (s ∷ ss) (f ∷ fs) = (f.0 ≡ s.0) × (OfSort ks s.1 f.1 × AreFields ks ss fs)

fields-put : (ks : List CellKind) (x : List ℕ) (s : Sort) (c : CellId) (ss : List Named) (fs : List Field) →
    OfSort ks s c → AreFields ks ss fs →
    AreFields ks (put_field x s ss) (put_field x c fs)
fields-put ks x s c [] [] h all = (refl, (h, tt))
fields-put ks x s c [] (f ∷ fs) h all = absurd (all)
fields-put ks x s c (t ∷ ss) [] h all = absurd (all)
fields-put ks x s c (t ∷ ss) (f ∷ fs) h all =
    by (is_lt (text_cmp x t.0)) (is_lt (text_cmp x f.0)) (ap (λ n. is_lt (text_cmp x n)) all.0)
    (put_field x s ss) (put_field x c fs) (fields-put ks x s c ss fs h all.1.1)
  where
    by : (p q : Bool) → q ≡ p → (ts : List Named) (gs : List Field) → AreFields ks ts gs →
        AreFields ks (if p then (x, s) ∷ t ∷ ss else t ∷ ts) (if q then (x, c) ∷ f ∷ fs else f ∷ gs)
    by true true e ts gs a = (refl, (h, all))
    by true false e ts gs a = absurd (cc)
    by false true e ts gs a = absurd (cc)
    by false false e ts gs a = (all.0, (all.1.0, a))

fields-in_order : (ks : List CellKind) (xs : List (List ℕ)) (ss : List Sort) (cs : List CellId) → OfSorts ks ss cs →
    AreFields ks (in_order xs ss) (in_order xs cs)
fields-in_order ks [] ss cs h = tt
fields-in_order ks (x ∷ xs) [] [] h = tt
fields-in_order ks (x ∷ xs) [] (c ∷ cs) h = absurd (h)
fields-in_order ks (x ∷ xs) (s ∷ ss) [] h = absurd (h)
fields-in_order ks (x ∷ xs) (s ∷ ss) (c ∷ cs) h =
    fields-put ks x s c (in_order xs ss) (in_order xs cs) h.0 (fields-in_order ks xs ss cs h.1)

fields-named : (ks : List CellKind) (ss : List Named) (fs : List Field) → AreFields ks ss fs →
    map (λ (f : Field). f.0) fs ≡ map (λ (s : Named). s.0) ss
fields-named ks [] [] h = refl
fields-named ks [] (f ∷ fs) h = absurd (h)
fields-named ks (s ∷ ss) [] h = absurd (h)
fields-named ks (s ∷ ss) (f ∷ fs) h =
    ap₂ (λ (x : List ℕ) (xs : List (List ℕ)). x ∷ xs) h.0 (fields-named ks ss fs h.1.1)

fields-sorted : (ks : List CellKind) (ss : List Named) (fs : List Field) → AreFields ks ss fs →
    OfSorts ks (map (λ (s : Named). s.1) ss) (map (λ (f : Field). f.1) fs)
fields-sorted ks [] [] h = tt
fields-sorted ks [] (f ∷ fs) h = absurd (h)
fields-sorted ks (s ∷ ss) [] h = absurd (h)
fields-sorted ks (s ∷ ss) (f ∷ fs) h = (h.1.0, fields-sorted ks ss fs h.1.1)

same_count : (ss : List Named) → length (map (λ (s : Named). s.1) ss) ≡ length (map (λ (s : Named). s.0) ss)
same_count [] = refl
same_count (s ∷ ss) = ap suc (same_count ss)

-- the names of sorted fields, and their cells each of its sort
pub fields-placed : (ks : List CellKind) (xs : List (List ℕ)) (ss : List Sort) (cs : List CellId) → OfSorts ks ss cs →
    (map (λ (f : Field). f.0) (in_order xs cs) ≡ map (λ (s : Named). s.0) (in_order xs ss))
    × ArePlaced (length (map (λ (s : Named). s.0) (in_order xs ss)))
    (λ i. OfSort ks (sort_at (map (λ (s : Named). s.1) (in_order xs ss)) i)) (map (λ (f : Field). f.1) (in_order xs cs))
fields-placed ks xs ss cs h =
    let all : AreFields ks (in_order xs ss) (in_order xs cs) = fields-in_order ks xs ss cs h in
    let sorts : List Sort = map (λ (s : Named). s.1) (in_order xs ss) in (
      fields-named ks (in_order xs ss) (in_order xs cs) all,
      subst (λ n. ArePlaced n (λ i. OfSort ks (sort_at sorts i)) (map (λ (f : Field). f.1) (in_order xs cs)))
          (same_count (in_order xs ss))
          (sorts-placed ks sorts (map (λ (f : Field). f.1) (in_order xs cs))
          (fields-sorted ks (in_order xs ss) (in_order xs cs) all)),
    )

-- ---- the sorts of kinds

pub kinds-sorts : (ks : List Kind) → item_sorts (kinds ks) ≡ map sort_of ks
kinds-sorts [] = refl
kinds-sorts (k ∷ ks) = ap (λ (ss : List Sort). sort_of k ∷ ss) (kinds-sorts ks)

pub insert-sorts : (x : List ℕ) (k : Kind) (fs : Fields) →
    field_sorts (insert_field x k fs) ≡ put_field x (sort_of k) (field_sorts fs)
insert-sorts x k no_fields = refl
insert-sorts x k (more_fields y j fs) = by (is_lt (text_cmp x y)) (insert_field x k fs) (insert-sorts x k fs)
  where
    by : (t : Bool) (gs : Fields) → field_sorts gs ≡ put_field x (sort_of k) (field_sorts fs) →
        field_sorts (if t then more_fields x k (more_fields y j fs) else more_fields y j gs)
        ≡ (if t then (x, sort_of k) ∷ (y, sort_of j) ∷ field_sorts fs
        else (y, sort_of j) ∷ put_field x (sort_of k) (field_sorts fs))
    by true gs h = refl
    by false gs h = ap (λ (ss : List Named). (y, sort_of j) ∷ ss) h

pub fields-sorts : (xs : List (List ℕ)) (ks : List Kind) →
    field_sorts (fields (zip xs ks)) ≡ in_order xs (map sort_of ks)
fields-sorts [] ks = refl
fields-sorts (x ∷ xs) [] = refl
fields-sorts (x ∷ xs) (k ∷ ks) =
    insert-sorts x k (fields (zip xs ks)) ∙ ap (put_field x (sort_of k)) (fields-sorts xs ks)
