-- What looking at clauses finds.
use Rattle.std.specs.Prelude.{◌≡◌, ℕ, ◌≤◌, List, [], MatchOption, All, Option}
use Rattle.sat_formula.specs.declared.lit.Lit.{Lit}
use Rattle.refutation_checker.specs.Follows.{IsFalse, IsUnit}
use Rattle.watched_search.specs.Trail.{TrailView, lits_of}
use Rattle.watched_search.specs.Searching.{IsFalseAt}
use Rattle.cdcl_solver.specs.inner.Chain.{Quiet, Chain}
use Rattle.cdcl_solver.specs.inner.Weight.{weight}
use Rattle.plain_solver.specs.declared.propagation.Status.{Status}
use Rattle.plain_solver.specs.declared.propagation.Status.TheVariants.{AllFalse, OneLeft, Other}

abbrev pub IsStatus : List Lit → List Lit → Status → Type 0
IsStatus T c AllFalse = IsFalse T c
IsStatus T c (OneLeft u) = IsUnit T c u
IsStatus T c Other = Quiet T c

-- the trail went on, until a clause is false or each says nothing
pub record IsPropagated (known : List (List Lit)) (old new : TrailView) (conflict : Option ℕ) : Type 0 where
  pub chain : Chain known [] new.entries
  pub room : new.room ≡ old.room
  pub weight : weight old.room new.entries ≤ weight old.room old.entries
  pub found : MatchOption conflict (All (Quiet (lits_of new.entries)) known) (λ c. IsFalseAt known (lits_of new.entries) c)
