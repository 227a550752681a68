-- Cells of names by their places, and lists that grow at their end.
use Rattle.std.proofs.Common.{◌≡◌, ℕ, zero, suc, ◌+◌, ◌<◌, ◌≤◌, ◌⊎◌, inl, inr, Bool, List, [], ◌∷◌, ◌++◌, length, map, get_or, All, refl, sym, ◌∙◌, ap, subst, arith, Some}
use Rattle.std.specs.Prelude.{slice_get}
use Rattle.std.proofs.lemmas.Bool.{cases_lt}
use Rattle.std.proofs.lemmas.List.{get_or_append_left, get_or_push}
use Rattle.std.proofs.lemmas.List.Elements.{All-cons, All-nil}
use Rattle.std.proofs.lemmas.Option.{none-some}
use Rattle.cell_arena.specs.declared.build.Build.{Build}
use Rattle.cell_arena.specs.declared.kinds.CellId.{CellId}
use Rattle.cell_arena.specs.declared.kinds.CellKind.{CellKind}
use Rattle.cell_arena.specs.Decode.{decode}
use Rattle.cell_arena.specs.Growth.{Grows}
use Rattle.cell_arena.proofs.Growing.{decode-assigned, decode-before}
use Rattle.cell_merge.specs.Sorts.{OfSort}
use Rattle.cell_merge.proofs.Edges.{sort-there}
use Rattle.cell_merge.proofs.SortLaws.{OfSort-later}
use Rattle.kernel_trees.specs.Picks.{IsOneOf}
use Rattle.kernel_trees.specs.TypeKinds.{Kind}
use Rattle.typed_cells.specs.KindSorts.{sort_of}
use Rattle.branch_cells.specs.Branches.{AreOfKinds}

-- ---- lists

-- what is known place by place, of one item more
pub at_more : {X : Type 0} (P : ℕ → X → X → Type 0) (xs : List X) (x : X) (i : ℕ) → length xs ≡ i →
    ((j : ℕ) (d : X) → j < i → P j d (get_or xs j d)) → ((d : X) → P i d x) →
    (j : ℕ) (d : X) → j < i + 1 → P j d (get_or (xs ++ x ∷ []) j d)
at_more {X = X} P xs x i n h here j d lt = by (cases_lt j i)
  where
    by : (j < i) ⊎ (i ≤ j) → P j d (get_or (xs ++ x ∷ []) j d)
    by (inl less) = subst (P j d) (sym (get_or_append_left xs (x ∷ []) d j (omega arith))) (h j d less)
    by (inr le) =
        let last : i ≡ j = omega arith in
        subst (λ (k : ℕ). P k d (get_or (xs ++ x ∷ []) k d)) last
        (subst (P i d) (sym (get_or_push xs x d i n)) (here d))

-- an item stands in its list
pub one_at : {X : Type 0} (xs : List X) (i : ℕ) (d : X) → i < length xs → IsOneOf (get_or xs i d) xs
one_at [] i d lt = absurd (omega (arith, lt))
one_at (x ∷ xs) zero d lt = inl refl
one_at (x ∷ xs) (suc i) d lt = inr (one_at xs i d (omega (arith, lt)))

-- where it stands
pub record StandsAt {X : Type 0} (x : X) (xs : List X) : Type 0 where
  pub place : ℕ
  pub within : place < length xs
  pub is : (d : X) → get_or xs place d ≡ x

pub stands_at : {X : Type 0} (x : X) (xs : List X) → IsOneOf x xs → StandsAt x xs
stands_at x [] h = absurd h
stands_at x (y ∷ ys) (inl e) = record { place = 0; within = omega arith; is = λ d. sym e }
stands_at x (y ∷ ys) (inr h) =
    let s = stands_at x ys h in
    let lt = s.within in
    record { place = suc s.place; within = omega (arith, lt); is = λ d. s.is d }

pub all_one : {X : Type 0} (P : X → Type 0) (x : X) (xs : List X) → All P xs → IsOneOf x xs → P x
all_one P x xs h one =
    let s = stands_at x xs one in
    subst P (s.is x) (h s.place x s.within)

-- ---- cells of names

pub kinds_count : (ks : List CellKind) (names : List Kind) (ids : List CellId) → AreOfKinds ks names ids →
    length ids ≡ length names
kinds_count ks [] [] h = refl
kinds_count ks [] (id ∷ ids) h = absurd h
kinds_count ks (a ∷ as') [] h = absurd h
kinds_count ks (a ∷ as') (id ∷ ids) h = let n = kinds_count ks as' ids h.1 in omega (arith, n)

pub kinds_at : (ks : List CellKind) (names : List Kind) (ids : List CellId) (i : ℕ) (a : Kind) (d : CellId) →
    AreOfKinds ks names ids →
    slice_get names i ≡ Some a → OfSort ks (sort_of a) (get_or ids i d)
kinds_at ks [] [] i a d h e = absurd (none-some a e)
kinds_at ks [] (id ∷ ids) i a d h e = absurd h
kinds_at ks (b ∷ bs) [] i a d h e = absurd h
kinds_at ks (b ∷ bs) (id ∷ ids) zero a d h e = let same : b ≡ a = cc in
    subst (λ (c : Kind). OfSort ks (sort_of c) id) same h.0
kinds_at ks (b ∷ bs) (id ∷ ids) (suc i) a d h e = kinds_at ks bs ids i a d h.1 e

-- a kind stands at each place
pub record KindAt (names : List Kind) (i : ℕ) : Type 0 where
  pub kind : Kind
  pub is : slice_get names i ≡ Some kind

pub kind_at : (names : List Kind) (i : ℕ) → i < length names → KindAt names i
kind_at [] i lt = absurd (omega (arith, lt))
kind_at (a ∷ as') zero lt = record { kind = a; is = refl }
kind_at (a ∷ as') (suc i) lt = let k = kind_at as' i (omega (arith, lt)) in record { kind = k.kind; is = k.is }

pub kinds_from : (ks : List CellKind) (names : List Kind) (ids : List CellId) → length ids ≡ length names →
    ((i : ℕ) (a : Kind) (d : CellId) → slice_get names i ≡ Some a → OfSort ks (sort_of a) (get_or ids i d)) →
    AreOfKinds ks names ids
kinds_from ks [] [] n h = tt
kinds_from ks [] (id ∷ ids) n h = absurd (omega (arith, n))
kinds_from ks (a ∷ as') [] n h = absurd (omega (arith, n))
kinds_from ks (a ∷ as') (id ∷ ids) n h =
    (h 0 a id refl, kinds_from ks as' ids (omega (arith, n)) (λ i b d e. h (suc i) b d e))

pub kinds_later : (b c : Build) (names : List Kind) (ids : List CellId) → Grows b c →
    AreOfKinds b.arena.kinds names ids →
    AreOfKinds c.arena.kinds names ids
kinds_later b c [] [] g h = tt
kinds_later b c [] (id ∷ ids) g h = absurd h
kinds_later b c (a ∷ as') [] g h = absurd h
kinds_later b c (a ∷ as') (id ∷ ids) g h = (OfSort-later b c (sort_of a) id h.0 g, kinds_later b c as' ids g h.1)

-- each cell is there
pub kinds_there : (ks : List CellKind) (names : List Kind) (ids : List CellId) → AreOfKinds ks names ids →
    All (λ id. id.index < length ks) ids
kinds_there ks [] [] h = All-nil (λ (id : CellId). id.index < length ks)
kinds_there ks [] (id ∷ ids) h = absurd h
kinds_there ks (a ∷ as') [] h = absurd h
kinds_there ks (a ∷ as') (id ∷ ids) h =
    All-cons (λ (id : CellId). id.index < length ks) id ids (sort-there ks (sort_of a) id h.0) (kinds_there ks as' ids h.1)

-- older cells have the values that they had
pub decoded_later : (b c : Build) (a : List Bool) (names : List Kind) (ids : List CellId) → Grows b c →
    AreOfKinds b.arena.kinds names ids → map (decode c.arena a) ids ≡ map (decode b.arena a) ids
decoded_later b c a [] [] g h = refl
decoded_later b c a [] (id ∷ ids) g h = absurd h
decoded_later b c a (k ∷ ks) [] g h = absurd h
decoded_later b c a (k ∷ ks) (id ∷ ids) g h =
    ap (λ v. v ∷ map (decode c.arena a) ids) (decode-before b c a id g (sort-there b.arena.kinds (sort_of k) id h.0))
    ∙ ap (λ vs. decode b.arena a id ∷ vs) (decoded_later b c a ks ids g h.1)

-- and under a longer assignment too
pub decoded_longer : (b : Build) (a more : List Bool) (ids : List CellId) → length a ≡ b.formula.vars →
    map (decode b.arena (a ++ more)) ids ≡ map (decode b.arena a) ids
decoded_longer b a more [] n = refl
decoded_longer b a more (id ∷ ids) n =
    ap (λ v. v ∷ map (decode b.arena (a ++ more)) ids) (decode-assigned b id a more n)
    ∙ ap (λ vs. decode b.arena a id ∷ vs) (decoded_longer b a more ids n)
