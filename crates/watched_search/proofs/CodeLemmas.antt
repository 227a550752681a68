use Rattle.std.proofs.Common.{◌≡◌, ℕ, ◌+◌, ◌*◌, ◌<◌, Bool, true, false, if◌then◌else◌, refl, arith}
use Rattle.sat_formula.specs.declared.lit.Lit.{Lit}
use Rattle.refutation_checker.proofs.TrailLemmas.{Lit-same}
use Rattle.watched_search.specs.Codes.{code}

twice : (u v : ℕ) (a b : Bool) → 2 * u + (if a then 1 else 0) ≡ 2 * v + (if b then 1 else 0) → (u ≡ v) × (a ≡ b)
twice u v true true e = (omega arith, refl)
twice u v false false e = (omega arith, refl)
twice u v true false e = absurd (omega arith)
twice u v false true e = absurd (omega arith)

-- no two literals have one code
pub code-same : (l m : Lit) → code l ≡ code m → l ≡ m
code-same l m e = let p = twice l.var m.var l.neg m.neg e in Lit-same l m p.0 p.1

at_most_one : (b : Bool) (n room : ℕ) → n < room → 2 * n + (if b then 1 else 0) < 2 * room
at_most_one true n room lt = omega arith
at_most_one false n room lt = omega arith

-- a table of twice as many places as there are variables has one for each literal
pub code-below : (l : Lit) (room : ℕ) → l.var < room → code l < 2 * room
code-below l room lt = at_most_one l.neg l.var room lt

at_least : (b : Bool) (n room : ℕ) → 2 * n + (if b then 1 else 0) < 2 * room → n < room
at_least true n room lt = omega arith
at_least false n room lt = omega arith

pub below-code : (l : Lit) (room : ℕ) → code l < 2 * room → l.var < room
below-code l room lt = at_least l.neg l.var room lt
