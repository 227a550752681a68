-- The constants stand first, and what they have of a list.
use Rattle.std.proofs.Common.{◌≡◌, ℕ, zero, suc, ◌<◌, ◌≤◌, Bool, true, false, not, IsTrue, List, [], ◌∷◌, map, take}
use Rattle.std.proofs.Common.{length, filter, refl, ap, arith}
use Rattle.std.specs.Prelude.{All, Option, None, Some, option_and_then, slice_get}
use Rattle.std.specs.List.{list_all}
use Rattle.std.proofs.lemmas.List.Elements.{All-cons, All-head, All-nil, All-tail}
use Rattle.tla_meaning.proofs.Views.{false≢true}
use Rattle.kernel_trees.specs.Systems.{constants_first}
use Rattle.step_branches.specs.Ways.{of_constants}

abbrev pub count : List Bool → ℕ
count bs = length (filter (λ (b : Bool). b) bs)

none_first : (bs : List Bool) → IsTrue (list_all not bs) → count bs ≡ 0
none_first [] h = refl
none_first (true ∷ bs) h = absurd (false≢true h)
none_first (false ∷ bs) h = none_first bs h

-- the first of the names are constants
pub first_true : (bs : List Bool) (i : ℕ) → IsTrue (constants_first bs) → i < count bs → slice_get bs i ≡ Some true
first_true [] i h lt = absurd (omega (arith, lt))
first_true (true ∷ bs) zero h lt = refl
first_true (true ∷ bs) (suc i) h lt = first_true bs i h (less i (count bs) lt)
  where
    less : (i n : ℕ) → suc i < suc n → i < n
    less i n q = omega (arith, q)
first_true (false ∷ bs) i h lt = absurd (none i (count bs) (none_first bs h) lt)
  where
    none : (i n : ℕ) → n ≡ 0 → i < n → ⊥
    none i n e q = omega (arith, e, q)

-- and no other is
pub others_false : (bs : List Bool) (i : ℕ) → IsTrue (constants_first bs) → slice_get bs i ≡ Some false → count bs ≤ i
others_false [] i h e = omega arith
others_false (true ∷ bs) zero h e = absurd (false≢true (same e))
  where
    same : Some true ≡ Some false → false ≡ true
    same q = cc
others_false (true ∷ bs) (suc i) h e = more (count bs) i (others_false bs i h e)
  where
    more : (m n : ℕ) → m ≤ n → suc m ≤ suc n
    more m n q = omega (arith, q)
others_false (false ∷ bs) i h e = zero_first (count bs) i (none_first bs h)
  where
    zero_first : (m n : ℕ) → m ≡ 0 → m ≤ n
    zero_first m n q = omega (arith, q)

pub count_within : (bs : List Bool) → count bs ≤ length bs
count_within [] = omega arith
count_within (true ∷ bs) = more (count bs) (length bs) (count_within bs)
  where
    more : (m n : ℕ) → m ≤ n → suc m ≤ suc n
    more m n q = omega (arith, q)
count_within (false ∷ bs) = more (count bs) (length bs) (count_within bs)
  where
    more : (m n : ℕ) → m ≤ n → m ≤ suc n
    more m n q = omega (arith, q)

-- ---- what they have

no_first : (n : ℕ) → 0 ≡ suc n → ⊥
no_first n q = omega (arith, q)

no_last : (n : ℕ) → suc n ≡ 0 → ⊥
no_last n q = omega (arith, q)

less : (m n : ℕ) → suc m ≡ suc n → m ≡ n
less m n q = omega (arith, q)

-- what stands at a place of a list of what may be there
abbrev pub at_place : {X : Type 0} → List (Option X) → ℕ → Option X
at_place os i = option_and_then (λ o. o) (slice_get os i)

module _ {X : Type 0} where
  pub constants_count : (bs : List Bool) (xs : List X) → length bs ≡ length xs → length (of_constants bs xs) ≡ length bs
  constants_count [] xs e = refl
  constants_count (b ∷ bs) [] e = absurd (no_last (length bs) e)
  constants_count (true ∷ bs) (x ∷ xs) e = ap suc (constants_count bs xs (less (length bs) (length xs) e))
  constants_count (false ∷ bs) (x ∷ xs) e = ap suc (constants_count bs xs (less (length bs) (length xs) e))

  none_some : (x : X) → None ≡ Some x → ⊥
  none_some x q = cc

  pub constants_at : (bs : List Bool) (xs : List X) (i : ℕ) (x : X) → at_place (of_constants bs xs) i ≡ Some x →
      slice_get xs i ≡ Some x
  constants_at [] xs i x e = absurd (none i e)
    where
      none : (i : ℕ) → at_place {X = X} [] i ≡ Some x → ⊥
      none zero q = none_some x q
      none (suc i) q = none_some x q
  constants_at (b ∷ bs) [] i x e = absurd (none i e)
    where
      none : (i : ℕ) → at_place {X = X} [] i ≡ Some x → ⊥
      none zero q = none_some x q
      none (suc i) q = none_some x q
  constants_at (true ∷ bs) (y ∷ xs) zero x e = e
  constants_at (false ∷ bs) (y ∷ xs) zero x e = absurd (none_some x e)
  constants_at (true ∷ bs) (y ∷ xs) (suc i) x e = constants_at bs xs i x e
  constants_at (false ∷ bs) (y ∷ xs) (suc i) x e = constants_at bs xs i x e

  pub constants_there : (bs : List Bool) (xs : List X) (i : ℕ) → length bs ≡ length xs → slice_get bs i ≡ Some true →
      at_place (of_constants bs xs) i ≡ slice_get xs i
  constants_there [] xs i e f = absurd (none i f)
    where
      wrong : None ≡ Some true → ⊥
      wrong q = cc

      none : (i : ℕ) → slice_get [] i ≡ Some true → ⊥
      none zero q = wrong q
      none (suc i) q = wrong q
  constants_there (b ∷ bs) [] i e f = absurd (no_last (length bs) e)
  constants_there (true ∷ bs) (x ∷ xs) zero e f = refl
  constants_there (false ∷ bs) (x ∷ xs) zero e f = absurd (false≢true (same f))
    where
      same : Some false ≡ Some true → false ≡ true
      same q = cc
  constants_there (true ∷ bs) (x ∷ xs) (suc i) e f = constants_there bs xs i (less (length bs) (length xs) e) f
  constants_there (false ∷ bs) (x ∷ xs) (suc i) e f = constants_there bs xs i (less (length bs) (length xs) e) f

  pub constants_all : (P : Option X → Type 0) (bs : List Bool) (xs : List X) → P None → All (λ x. P (Some x)) xs →
      All P (of_constants bs xs)
  constants_all P [] xs n h = All-nil P
  constants_all P (b ∷ bs) [] n h = All-nil P
  constants_all P (true ∷ bs) (x ∷ xs) n h =
      All-cons P (Some x) (of_constants bs xs) (All-head (λ y. P (Some y)) x xs h)
      (constants_all P bs xs n (All-tail (λ y. P (Some y)) x xs h))
  constants_all P (false ∷ bs) (x ∷ xs) n h = All-cons P None (of_constants bs xs) n
      (constants_all P bs xs n (All-tail (λ y. P (Some y)) x xs h))

  pub nones_all : (P : Option X → Type 0) (bs : List Bool) → P None → All P (map (λ _. None) bs)
  nones_all P [] n = All-nil P
  nones_all P (b ∷ bs) n = All-cons P None (map (λ _. None) bs) n (nones_all P bs n)

  pub nones_at : (bs : List Bool) (i : ℕ) → at_place {X = X} (map (λ _. None) bs) i ≡ None
  nones_at [] zero = refl
  nones_at [] (suc i) = refl
  nones_at (b ∷ bs) zero = refl
  nones_at (b ∷ bs) (suc i) = nones_at bs i

pub get_none : {X : Type 0} (i : ℕ) (x : X) → slice_get [] i ≡ Some x → ⊥
get_none zero x e = cc
get_none (suc i) x e = cc

-- of the first n items
pub take_at : {X : Type 0} (n : ℕ) (xs : List X) (i : ℕ) (x : X) → slice_get (take n xs) i ≡ Some x →
    (i < n) × (slice_get xs i ≡ Some x)
take_at zero xs i x e = absurd (get_none i x e)
take_at (suc n) [] i x e = absurd (get_none i x e)
take_at (suc n) (y ∷ xs) zero x e = (omega arith, e)
take_at (suc n) (y ∷ xs) (suc i) x e = let r = take_at n xs i x e in (more i n r.0, r.1)
  where
    more : (i n : ℕ) → i < n → suc i < suc n
    more i n q = omega (arith, q)

pub at_take : {X : Type 0} (n : ℕ) (xs : List X) (i : ℕ) → i < n → slice_get (take n xs) i ≡ slice_get xs i
at_take zero xs i lt = absurd (omega (arith, lt))
at_take (suc n) [] i lt = refl
at_take (suc n) (y ∷ xs) zero lt = refl
at_take (suc n) (y ∷ xs) (suc i) lt = at_take n xs i (before i n lt)
  where
    before : (i n : ℕ) → suc i < suc n → i < n
    before i n q = omega (arith, q)
