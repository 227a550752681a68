-- Columns of lists, and tests.
use Rattle.tla_lexer.specs.declared.token.Token.{Token as Tok}
use Rattle.std.proofs.Common.{ℕ, Bool, true, false, List, inl, inr, refl, arith, ◌≡◌, ◌≤◌, ◌⊎◌, ◌∷◌, ◌++◌, ◌&&◌, ◌||◌, []}
use Rattle.tla_parser.specs.Written.{From}

pub From-left : (n : ℕ) (xs ys : List Tok) → From n (xs ++ ys) → From n xs
From-left n [] ys h = tt
From-left n (x ∷ xs) ys h = (h.0, From-left n xs ys h.1)

pub From-right : (n : ℕ) (xs ys : List Tok) → From n (xs ++ ys) → From n ys
From-right n [] ys h = h
From-right n (x ∷ xs) ys h = From-right n xs ys h.1

pub From-append : (n : ℕ) (xs ys : List Tok) → From n xs → From n ys → From n (xs ++ ys)
From-append n [] ys h g = g
From-append n (x ∷ xs) ys h g = (h.0, From-append n xs ys h.1 g)

pub From-less : (m n : ℕ) (xs : List Tok) → m ≤ n → From n xs → From m xs
From-less m n [] h g = tt
From-less m n (x ∷ xs) h g = (omega (arith, g.0), From-less m n xs h g.1)

pub either : (b : Bool) → (b ≡ true) ⊎ (b ≡ false)
either true = inl refl
either false = inr refl

pub or_left : (a b : Bool) → a ≡ true → (a || b) ≡ true
or_left true b h = refl
or_left false b h = cc

pub or_right : (a b : Bool) → b ≡ true → (a || b) ≡ true
or_right true b h = refl
or_right false b h = h

pub or_none : (a b : Bool) → a ≡ false → b ≡ false → (a || b) ≡ false
or_none true b h g = cc
or_none false b h g = g

pub or_cases : (a b : Bool) → (a || b) ≡ true → (a ≡ true) ⊎ (b ≡ true)
or_cases true b h = inl refl
or_cases false b h = inr h

pub and_both : (a b : Bool) → (a && b) ≡ true → (a ≡ true) × (b ≡ true)
and_both true b h = (refl, h)
and_both false b h = cc

pub not_true : (b : Bool) → (b ≡ true → ⊥) → b ≡ false
not_true true h = absurd (h refl)
not_true false h = refl
