-- Joins of shapes, and the number of a join.
use Rattle.std.proofs.Common.{◌≡◌, ℕ, ◌-◌, ◌≤◌, ◌<◌, min, max, Bool, true, false, List, [], ◌∷◌, Option, Some, None, ℤ, pos, neg_ℤ, ◌-ℤ◌, refl, sym, ◌∙◌, ap, ap₂, arith, if◌then◌else◌}
use Rattle.std.proofs.lemmas.Int.{ints, clamps}
use Rattle.std.specs.Int.{int_max, int_min}
use Rattle.std.specs.Prelude.{nat_lt, ◌^◌}
use Rattle.std.proofs.Math.Nat.{pow-le-pow_right}
use Rattle.std.specs.declared.cmp.Ordering.{Ordering}
use Rattle.std.specs.declared.cmp.Ordering.TheVariants.{Less, Equal}
use Rattle.std.specs.Ordering.{nat_cmp, is_lt}
use Rattle.std.specs.Cmp.{nat_cmp_is}
use Rattle.std.specs.Cmp.Lexicographic.{slice_cmp}
use Rattle.tla_meaning.specs.declared.place.Place.{Place}
use Rattle.tla_meaning.proofs.Views.{false≢true}
use Rattle.kernel_shapes.specs.Shape.{Shape, Atom, Num, Set, Fun, Rec, Tup, Seq, Empty, Shapes, no_shapes, more_shapes, join, join_items, alike, over_both, over_ends, interval, moved, hull_of}
use Rattle.kernel_shapes.specs.Counts.{Count, Rank, most_printed, most_members, most_places, passes_limit, rank, first_of_two, either_rank, rank_of_one}
use Rattle.kernel_shapes.proofs.Refusals.{either_same}
use Rattle.kernel_reduction.proofs.Ranks.{either_none}
use Rattle.kernel_reduction.proofs.Gists.{own}

pub join_empty : (a : Shape) → join a Empty ≡ a
join_empty Atom = refl
join_empty (Num a b) = refl
join_empty (Set n a) = refl
join_empty (Fun n a r) = refl
join_empty (Rec xs as') = refl
join_empty (Tup as') = refl
join_empty (Seq n a) = refl
join_empty Empty = refl

max_self : (n : ℕ) → max n n ≡ n
max_self n = omega arith

pub least_self : (a : ℤ) → int_min a a ≡ a
least_self a = grind (arith, ints)

pub greatest_self : (a : ℤ) → int_max a a ≡ a
greatest_self a = grind (arith, ints)

mutual
  pub join_self : (a : Shape) → join a a ≡ a
  join_self Atom = refl
  join_self (Num a b) = ap₂ Num (least_self a) (greatest_self b)
  join_self (Set n a) = ap₂ Set (max_self n) (join_self a)
  join_self (Fun n a r) = (λ i. Fun (max_self n i) (join_self a i) (join_self r i))
  join_self (Rec xs as') = ap (Rec xs) (items_self as')
  join_self (Tup as') = ap Tup (items_self as')
  join_self (Seq n a) = ap₂ Seq (max_self n) (join_self a)
  join_self Empty = refl

  pub items_self : (as' : Shapes) → join_items as' as' ≡ as'
  items_self no_shapes = refl
  items_self (more_shapes a as') = ap₂ more_shapes (join_self a) (items_self as')

-- ---- the number of a join

same_cmp : (n : ℕ) → nat_cmp n n ≡ Equal
same_cmp n = sym (nat_cmp_is n n Equal refl)

less_cmp : (m n : ℕ) → m < n → nat_cmp m n ≡ Less
less_cmp m n h = sym (nat_cmp_is m n Less h)

skip : (n : ℕ) (xs ys : List ℕ) → slice_cmp nat_cmp (n ∷ xs) (n ∷ ys) ≡ slice_cmp nat_cmp xs ys
skip n xs ys = simp (same_cmp)

last : (m n : ℕ) → m < n → slice_cmp nat_cmp (m ∷ []) (n ∷ []) ≡ Less
last m n h = simp (less_cmp m n h)

-- the greater number comes first
abbrev of_number : Count → ℕ → Count
of_number c m = record { place = c.place; of_sequence = c.of_sequence; number = m }

abbrev rank_before : Count → ℕ → Rank
rank_before c x = c.place.file ∷ c.place.line ∷ c.place.col ∷ (if c.of_sequence then 1 else 0) ∷ x ∷ []

compared : (c : Count) (x y : ℕ) → slice_cmp nat_cmp (rank_before c x) (rank_before c y) ≡ slice_cmp nat_cmp (x ∷ []) (y ∷ [])
compared c x y =
    skip c.place.file (c.place.line ∷ c.place.col ∷ (if c.of_sequence then 1 else 0) ∷ x ∷ []) (c.place.line ∷ c.place.col ∷ (if c.of_sequence then 1 else 0) ∷ y ∷ [])
    ∙ skip c.place.line (c.place.col ∷ (if c.of_sequence then 1 else 0) ∷ x ∷ []) (c.place.col ∷ (if c.of_sequence then 1 else 0) ∷ y ∷ [])
    ∙ skip c.place.col ((if c.of_sequence then 1 else 0) ∷ x ∷ []) ((if c.of_sequence then 1 else 0) ∷ y ∷ [])
    ∙ skip (if c.of_sequence then 1 else 0) (x ∷ []) (y ∷ [])

first_by : (c : Count) (x y : ℕ) → x ≤ y → first_of_two (rank_before c y) (rank_before c x) ≡ rank_before c x
first_by c x y h = by (nat_lt x y) refl
  where
    less : nat_lt x y ≡ true → x < y
    less e = grind (arith, e)

    even : nat_lt x y ≡ false → y ≡ x
    even e = grind (arith, e, h)

    either_way : (b : Bool) → (if b then rank_before c x else rank_before c x) ≡ rank_before c x
    either_way true = refl
    either_way false = refl

    by : (b : Bool) → nat_lt x y ≡ b → first_of_two (rank_before c y) (rank_before c x) ≡ rank_before c x
    by true e = ap (λ (o : Ordering). if is_lt o then rank_before c x else rank_before c y) (compared c x y ∙ last x y (less e))
    by false e = ap (λ (z : ℕ). first_of_two (rank_before c z) (rank_before c x)) (even e) ∙ either_way (is_lt (slice_cmp nat_cmp (rank_before c x) (rank_before c x)))

rank_more : (c : Count) (m : ℕ) → c.number ≤ m → either_rank (rank_of_one c) (rank_of_one (of_number c m)) ≡ rank_of_one (of_number c m)
rank_more c m h = by (passes_limit c) refl
  where
    more : (l n m : ℕ) → nat_lt l n ≡ true → n ≤ m → nat_lt l m ≡ true
    more l n m e q = grind (arith, e, q)

    lower : (n m : ℕ) → n ≤ m → most_printed - min most_printed m ≤ most_printed - min most_printed n
    lower n m q = omega (arith, q)

    by : (b : Bool) → passes_limit c ≡ b → either_rank (if b then Some (rank c) else None) (rank_of_one (of_number c m)) ≡ rank_of_one (of_number c m)
    by true e =
        ap (λ (b : Bool). either_rank (Some (rank c)) (if b then Some (rank (of_number c m)) else None)) (more (if c.of_sequence then most_places else most_members) c.number m e h)
        ∙ ap Some (first_by c (most_printed - min most_printed m) (most_printed - min most_printed c.number) (lower c.number m h))
        ∙ ap (λ (b : Bool). if b then Some (rank (of_number c m)) else None) (sym (more (if c.of_sequence then most_places else most_members) c.number m e h))
    by false e = refl

ones : (a b : Option Rank) → either_rank a b ≡ b → either_rank (either_rank a None) (either_rank b None) ≡ either_rank b None
ones a b h = ap₂ either_rank (either_none a) (either_none b) ∙ h ∙ sym (either_none b)

above : (n m : ℕ) → m ≤ max n m
above n m = omega arith

-- of two shapes of one kind
pub own_join : (p : Place) (a b : Shape) → alike a b ≡ true → either_rank (own p b) (own p (join a b)) ≡ own p (join a b)
own_join p Empty b h = either_same (own p b)
own_join p a Empty h = refl
own_join p Atom Atom h = refl
own_join p (Num a b) (Num c d) h = refl
own_join p (Set n a) (Set m b) h = ones _ _ (rank_more (record { place = p; of_sequence = false; number = m }) (max n m) (above n m))
own_join p (Fun n a r) (Fun m b s) h = ones _ _ (rank_more (record { place = p; of_sequence = false; number = m }) (max n m) (above n m))
own_join p (Seq n a) (Seq m b) h = ones _ _ (rank_more (record { place = p; of_sequence = true; number = m }) (max n m) (above n m))
own_join p (Rec xs as') (Rec ys bs) h = refl
own_join p (Tup as') (Tup bs) h = refl
own_join p a Atom h = refl
own_join p a (Num c d) h = refl
own_join p a (Rec xs bs) h = refl
own_join p a (Tup bs) h = refl
own_join p Atom (Set m b) h = absurd (false≢true h)
own_join p Atom (Fun m b s) h = absurd (false≢true h)
own_join p Atom (Seq m b) h = absurd (false≢true h)
own_join p (Num a c) (Set m b) h = absurd (false≢true h)
own_join p (Num a c) (Fun m b s) h = absurd (false≢true h)
own_join p (Num a c) (Seq m b) h = absurd (false≢true h)
own_join p (Set n a) (Fun m b s) h = absurd (false≢true h)
own_join p (Set n a) (Seq m b) h = absurd (false≢true h)
own_join p (Fun n a r) (Set m b) h = absurd (false≢true h)
own_join p (Fun n a r) (Seq m b) h = absurd (false≢true h)
own_join p (Seq n a) (Set m b) h = absurd (false≢true h)
own_join p (Seq n a) (Fun m b s) h = absurd (false≢true h)
own_join p (Rec xs as') (Set m b) h = absurd (false≢true h)
own_join p (Rec xs as') (Fun m b s) h = absurd (false≢true h)
own_join p (Rec xs as') (Seq m b) h = absurd (false≢true h)
own_join p (Tup as') (Set m b) h = absurd (false≢true h)
own_join p (Tup as') (Fun m b s) h = absurd (false≢true h)
own_join p (Tup as') (Seq m b) h = absurd (false≢true h)

-- ---- small numbers

half_width : (w : ℕ) → 2 ≤ w → 2 ≤ 2 ^ (w - 1)
half_width w h = let p : 2 ^ 1 ≤ 2 ^ (w - 1) = more (w - 1) (omega (arith, h)) in omega (arith, p)
  where
    more : (k : ℕ) → 1 ≤ k → 2 ^ 1 ≤ 2 ^ k
    more k q = pow-le-pow_right (omega arith) q

pub not_moved : (w : ℕ) → 2 ≤ w → (n : ℕ) → n ≤ 1 → moved w (pos n) ≡ pos n
not_moved w h n l = by (2 ^ (w - 1)) n (half_width w h) l
  where
    by : (m n : ℕ) → 2 ≤ m → n ≤ 1 → int_max (neg_ℤ (pos m)) (int_min (pos m -ℤ pos 1) (pos n)) ≡ pos n
    by m n q l = grind (arith, ints, clamps, q, l)

pub small_interval : (w : ℕ) → 2 ≤ w → (n : ℕ) → n ≤ 1 → interval w (pos n) (pos n) ≡ Num (pos n) (pos n)
small_interval w h n l = ap₂ Num (not_moved w h n l) (not_moved w h n l)

from_zero : (a : ℤ) → pos 0 -ℤ a ≡ neg_ℤ a
from_zero a = grind (arith, ints)

pub zero_minus : (w : ℕ) → 2 ≤ w → (a : Shape) → over_both w (λ x y. x -ℤ y) (interval w (pos 0) (pos 0)) a ≡ over_ends w (λ x. neg_ℤ x) a
zero_minus w h (Num a b) =
    ap (λ (z : Shape). over_both w (λ x y. x -ℤ y) z (Num a b)) (small_interval w h 0 (omega arith))
    ∙ (λ i. hull_of w (from_zero a i) (from_zero b i) (from_zero a i) (from_zero b i))
    ∙ ap₂ (interval w) (least_self (int_min (neg_ℤ a) (neg_ℤ b))) (greatest_self (int_max (neg_ℤ a) (neg_ℤ b)))
zero_minus w h Atom = refl
zero_minus w h (Set n a) = refl
zero_minus w h (Fun n a r) = refl
zero_minus w h (Rec xs as') = refl
zero_minus w h (Tup as') = refl
zero_minus w h (Seq n a) = refl
zero_minus w h Empty = refl

-- a number has no number of members
pub own_over : (w : ℕ) (f : ℤ → ℤ → ℤ) (p : Place) (a b : Shape) → own p (over_both w f a b) ≡ None
own_over w f p (Num a b) (Num c d) = refl
own_over w f p (Num a b) Atom = refl
own_over w f p (Num a b) (Set n c) = refl
own_over w f p (Num a b) (Fun n c r) = refl
own_over w f p (Num a b) (Rec xs as') = refl
own_over w f p (Num a b) (Tup as') = refl
own_over w f p (Num a b) (Seq n c) = refl
own_over w f p (Num a b) Empty = refl
own_over w f p Atom b = refl
own_over w f p (Set n a) b = refl
own_over w f p (Fun n a r) b = refl
own_over w f p (Rec xs as') b = refl
own_over w f p (Tup as') b = refl
own_over w f p (Seq n a) b = refl
own_over w f p Empty b = refl
