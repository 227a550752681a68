-- What the readers of a section's parts tell each other: how far they came, and why no further.
use Rattle.std.specs.Prelude.{◌≡◌, ℕ, ◌+◌, ◌<◌, List, ◌∷◌, ◌++◌, length, map, All}
use Rattle.sat_formula.specs.declared.lit.Lit.{Lit}
use Rattle.sat_formula.specs.Lit.{IsBelow}
use Rattle.refutation_checker.specs.declared.log.Step.{Step}
use Rattle.refutation_checker.specs.declared.section.Section.{Section}
use Rattle.refutation_checker.specs.Certificate.{clause_text, step_text, end_text, section_lines, text_of_lines, IsStep, EndsRightly, IsInGrammar}
use Rattle.refutation_checker.specs.inner.Reading.{Lacks}
use Rattle.refutation_checker.specs.Place.{Place}

-- the line spells a value that fits
abbrev pub IsLineOf : {X : Type 0} → (X → List ℕ) → (X → Type 0) → List ℕ → Type 0
IsLineOf {X = X} spelling fits line = (x : X) × (fits x × (line ≡ spelling x))

-- the bytes begin with no line of this kind
abbrev pub BeginsWithNo : (List ℕ → Type 0) → List ℕ → Type 0
BeginsWithNo IsKind bytes = (line more : List ℕ) → Lacks 10 line → bytes ≡ line ++ 10 ∷ more → IsKind line → ⊥

-- from one place to another, these lines were taken
pub record Takes (from to : Place) (lines : List (List ℕ)) : Type 0 where
  pub rest : from.rest ≡ text_of_lines lines ++ to.rest
  pub taken : to.taken ≡ from.taken + length lines

-- line n stands behind these lines, and begins with these bytes
pub record Reaches (from : Place) (lines : List (List ℕ)) (bytes : List ℕ) (n : ℕ) : Type 0 where
  pub rest : from.rest ≡ text_of_lines lines ++ bytes
  pub number : n ≡ from.taken + length lines + 1

-- the next line is of no such kind
abbrev pub StopsAtOnce : (List ℕ → Type 0) → Place → ℕ → Type 0
StopsAtOnce IsKind from n = (n ≡ from.taken + 1) × BeginsWithNo IsKind from.rest

-- fewer clauses than were announced, and then no clause
pub record StopsInClauses (vars count : ℕ) (from : Place) (n : ℕ) : Type 0 where
  pub clauses : List (List Lit)
  pub bytes : List ℕ
  pub reached : Reaches from (map clause_text clauses) bytes n
  pub fit : All (All (IsBelow vars)) clauses
  pub few : length clauses < count
  pub no_clause : BeginsWithNo (IsLineOf clause_text (All (IsBelow vars))) bytes

-- some steps, and then neither a step nor a line that may end them
pub record StopsInSteps (vars : ℕ) (from : Place) (n : ℕ) : Type 0 where
  pub steps : List Step
  pub bytes : List ℕ
  pub reached : Reaches from (map step_text steps) bytes n
  pub fit : All (IsStep vars) steps
  pub no_step : BeginsWithNo (IsLineOf step_text (IsStep vars)) bytes
  pub no_end : BeginsWithNo (IsLineOf end_text (λ o. EndsRightly o steps)) bytes

-- the lines that a section may begin with, and then none that can follow
pub record StopsInSection (from : Place) (n : ℕ) : Type 0 where
  pub before : List (List ℕ)
  pub bytes : List ℕ
  pub reached : Reaches from before bytes n
  pub good : (s : Section) × (IsInGrammar s × ((tail : List (List ℕ)) × (section_lines s ≡ before ++ tail)))
  pub bad : (s : Section) (tail : List (List ℕ)) → IsInGrammar s → BeginsWithNo (λ line. section_lines s ≡ before ++ line ∷ tail) bytes
  pub unfinished : (s : Section) → IsInGrammar s → before ≡ section_lines s → ⊥
