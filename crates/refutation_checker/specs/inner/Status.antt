-- What the checker's helpers find out about the clause that a hint names.
use Rattle.std.specs.Prelude.{◌≡◌, ℕ, ◌-◌, ◌<◌, ◌≤◌, List, [], length, slice_index_or, Option, Some, None}
use Rattle.std.specs.Borrow.{Bor}
use Rattle.sat_formula.specs.declared.lit.Lit.{Lit}
use Rattle.refutation_checker.specs.declared.following.Status.{Status}
use Rattle.refutation_checker.specs.declared.following.Status.TheVariants.{AllFalse, OneLeft, Other}
use Rattle.refutation_checker.specs.Follows.{IsFalse, IsUnit}

-- false, a unit, or neither
abbrev pub IsStatus : List Lit → List Lit → Status → Type 0
IsStatus truths clause AllFalse = IsFalse truths clause
IsStatus truths clause (OneLeft u) = IsUnit truths clause u
IsStatus truths clause Other = (IsFalse truths clause → ⊥) × ((u : Lit) → IsUnit truths clause u → ⊥)

-- the clause with the number h, from 1 on
abbrev pub IsClauseAt : List (List Lit) → ℕ → Option (Bor (List Lit)) → Type 0
IsClauseAt known h None = (0 < h) → h ≤ length known → ⊥
IsClauseAt known h (Some c) = (0 < h) × ((h ≤ length known) × (c.now ≡ slice_index_or known (h - 1) []))
