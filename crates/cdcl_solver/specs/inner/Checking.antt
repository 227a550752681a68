-- What the test of a step finds out on its way. A refusal promises nothing, so what leads to one is not spoken of.
use Rattle.std.specs.Prelude.{◌≡◌, ℕ, ◌-◌, ◌<◌, ◌≤◌, List, [], length, map, All, slice_index_or, Option, Some, None}
use Rattle.sat_formula.specs.declared.lit.Lit.{Lit}
use Rattle.sat_formula.specs.Lit.{IsBelow}
use Rattle.refutation_checker.specs.Follows.{negation, HasNoOpposites, IsFalse, IsUnit}
use Rattle.watched_search.specs.Codes.{literal}
use Rattle.watched_search.specs.Trail.{TrailView}
use Rattle.watched_search.specs.Searching.{SearchView}
use Rattle.cdcl_solver.specs.declared.checking.Status.{Status}
use Rattle.cdcl_solver.specs.declared.checking.Status.TheVariants.{Falsified, OneLeft, Other}

-- nothing is true
abbrev pub empty_trail : ℕ → TrailView
empty_trail room = record { room = room; entries = []; starts = [] }

-- these are the negations of the literals, none of which stands beside its own
pub record Assumes (lits truths : List Lit) : Type 0 where
  pub made : truths ≡ map negation lits
  pub apart : HasNoOpposites lits

-- the codes are those of the clause with the number h, from 1 on
pub record IsClauseOf (s : SearchView) (h : ℕ) (codes : List ℕ) : Type 0 where
  pub some : 0 < h
  pub within : h ≤ length s.clauses
  pub same : map (λ n. literal n) codes ≡ slice_index_or s.clauses (h - 1) []
  pub below : All (IsBelow s.vars) (map (λ n. literal n) codes)

-- no other code was found
abbrev pub IsAlone : Option ℕ → ℕ → Type 0
IsAlone None code = Unit {0}
IsAlone (Some other) code = other ≡ code

-- false, or a unit
abbrev pub IsStatus : List Lit → List Lit → Status → Type 0
IsStatus truths clause Falsified = IsFalse truths clause
IsStatus truths clause (OneLeft u) = IsUnit truths clause u
IsStatus truths clause Other = Unit {0}
