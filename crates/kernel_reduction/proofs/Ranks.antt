-- Which of several refusals comes first: it does not depend on their order, or on how often one stands there.
use Rattle.std.proofs.Common.{◌≡◌, ℕ, zero, suc, Bool, true, false, ◌&&◌, ◌||◌, List, [], ◌∷◌, Option, Some, None, refl, sym, ◌∙◌, ap, arith}
use Rattle.std.specs.Prelude.{nat_eq}
use Rattle.tla_meaning.proofs.Views.{and_left, and_right, false≢true}
use Rattle.kernel_shapes.specs.Counts.{Rank, either_rank}
use Rattle.kernel_shapes.proofs.Refusals.{either_comm, either_same, either_assoc}

pub either_none : (a : Option Rank) → either_rank a None ≡ a
either_none None = refl
either_none (Some a) = refl

-- what comes first of several, by their numbers in a list
pub data Sum : Type 0 where
  nothing : Sum
  one : ℕ → Sum
  both : Sum → Sum → Sum

abbrev pub at : ℕ → List (Option Rank) → Option Rank
at n [] = None
at zero (x ∷ xs) = x
at (suc n) (x ∷ xs) = at n xs

abbrev pub value : List (Option Rank) → Sum → Option Rank
value xs nothing = None
value xs (one n) = at n xs
value xs (both a b) = either_rank (value xs a) (value xs b)

abbrev pub has : ℕ → Sum → Bool
has n nothing = false
has n (one m) = nat_eq n m
has n (both a b) = has n a || has n b

-- whether each of one sum stands in the other
abbrev pub covers : Sum → Sum → Bool
covers nothing b = true
covers (one n) b = has n b
covers (both a c) b = covers a b && covers c b

nat_same : (m n : ℕ) → nat_eq m n ≡ true → m ≡ n
nat_same m n h = grind (arith, h)

pub below_left : (x a b : Option Rank) → either_rank x a ≡ a → either_rank x (either_rank a b) ≡ either_rank a b
below_left x a b h = sym (either_assoc x a b) ∙ ap (λ (o : Option Rank). either_rank o b) h

pub below_right : (x a b : Option Rank) → either_rank x b ≡ b → either_rank x (either_rank a b) ≡ either_rank a b
below_right x a b h = ap (either_rank x) (either_comm a b) ∙ below_left x b a h ∙ either_comm b a

has_below : (xs : List (Option Rank)) (n : ℕ) (b : Sum) → has n b ≡ true → either_rank (at n xs) (value xs b) ≡ value xs b
has_below xs n nothing h = absurd (false≢true h)
has_below xs n (one m) h = ap (λ (k : ℕ). either_rank (at k xs) (at m xs)) (nat_same n m h) ∙ either_same (at m xs)
has_below xs n (both a b) h = by (has n a) refl h (has_below xs n a) (has_below xs n b)
  where
    by : (c : Bool) → has n a ≡ c → (c || has n b) ≡ true →
        (has n a ≡ true → either_rank (at n xs) (value xs a) ≡ value xs a) → (has n b ≡ true → either_rank (at n xs) (value xs b) ≡ value xs b) →
        either_rank (at n xs) (value xs (both a b)) ≡ value xs (both a b)
    by true e g f k = below_left (at n xs) (value xs a) (value xs b) (f e)
    by false e g f k = below_right (at n xs) (value xs a) (value xs b) (k g)

pub covered : (xs : List (Option Rank)) (a b : Sum) → covers a b ≡ true → either_rank (value xs a) (value xs b) ≡ value xs b
covered xs nothing b h = refl
covered xs (one n) b h = has_below xs n b h
covered xs (both a c) b h =
    either_assoc (value xs a) (value xs c) (value xs b)
    ∙ ap (either_rank (value xs a)) (covered xs c b (and_right (covers a b) (covers c b) h))
    ∙ covered xs a b (and_left (covers a b) (covers c b) h)

-- sums of the same
pub same_sum : (xs : List (Option Rank)) (a b : Sum) → covers a b ≡ true → covers b a ≡ true → value xs a ≡ value xs b
same_sum xs a b h g = sym (covered xs b a g) ∙ either_comm (value xs b) (value xs a) ∙ covered xs a b h
