-- What literals of ends say. Source: Specifying Systems, section 16.1.1, for conjunctions that are evaluated from the left;
-- Konnov, Kukovec and Tran, "TLA+ Model Checking Made Symbolic", OOPSLA 2019, on symbolic transitions.
use Rattle.std.specs.Prelude.{◌≡◌, ◌↔◌, ◌<◌, ℕ, Bool, true, false, List, [], ◌∷◌, if◌then◌else◌}
use Rattle.sat_formula.specs.declared.cnf.Cnf.{Cnf}
use Rattle.sat_formula.specs.declared.lit.Lit.{Lit}
use Rattle.sat_formula.specs.Formula.{Satisfies, HasValue}
use Rattle.sat_formula.specs.Lit.{lit_value}
use Rattle.tla_meaning.specs.declared.outcome.Outcome.{Outcome}
use Rattle.tla_meaning.specs.Executions.{first_not_yes}
use Rattle.tla_meaning.specs.Questions.{IsBigOutcome, IsNotTrue}
use Rattle.cell_arena.specs.declared.build.Build.{Build}
use Rattle.outcome_cells.specs.declared.cells.Cells.{Cells}
use Rattle.outcome_cells.specs.Shows.{Shows}
use Rattle.level_laws.specs.Branches.{Ending, Held, MetWrong, MetBig}
use Rattle.level_laws.specs.Chains.{then_literals}
use Rattle.step_laws.specs.Outcomes.{outcome_ends}
use Rattle.branch_cells.specs.declared.branch.Ends.{Ends}

-- the literal of an end
abbrev pub end_of : Ends → Ending → Lit
end_of x Held = x.holds
end_of x MetWrong = x.wrong
end_of x MetBig = x.big

abbrev pub ends_at : Ends → Ending → List Bool → Bool
ends_at x k a = lit_value (end_of x k) a

-- the literals are of the first n variables
abbrev pub EndsBelow : ℕ → Ends → Type 0
EndsBelow n x = (k : Ending) → (end_of x k).var < n

-- ---- a tree that is taken as a whole

-- the literals say of the outcome that it is TRUE, Wrong, or an integer outside the width
abbrev pub AreEndsOf : List Bool → Ends → Outcome → Type 0
AreEndsOf a x o = (k : Ending) → (ends_at x k a ≡ true) ↔ outcome_ends o k

-- they do of each outcome that the cells show
pub record IsCondition (b : Build) (c : Cells) (x : Ends) : Type 0 where
  pub below : EndsBelow b.formula.vars x
  pub says : (a : List Bool) → Satisfies a b.formula → (o : Outcome) → Shows b.arena a c o → AreEndsOf a x o

-- one for each outcome
abbrev pub AreAllEndsOf : List Bool → List Ends → List Outcome → Type 0
AreAllEndsOf a [] [] = Unit {0}
AreAllEndsOf a [] (o ∷ os) = ⊥
AreAllEndsOf a (x ∷ xs) [] = ⊥
AreAllEndsOf a (x ∷ xs) (o ∷ os) = AreEndsOf a x o × AreAllEndsOf a xs os

-- the first literal says that of these outcomes the first that is not TRUE is no integer outside the width, the second that
-- it is one
pub record AreJudged (f : Cnf) (xs : List Ends) (r : Lit × Lit) : Type 0 where
  pub below : (r.0.var < f.vars) × (r.1.var < f.vars)
  pub says : (a : List Bool) → Satisfies a f → (os : List Outcome) → AreAllEndsOf a xs os →
      ((lit_value r.0 a ≡ true) ↔ IsNotTrue (first_not_yes os)) × ((lit_value r.1 a ≡ true) ↔ IsBigOutcome (first_not_yes os))

-- ---- literals of two parts

-- of a conjunction of two parts, the second of which counts only where the first holds
abbrev pub AreBehind : Cnf → Ends → Ends → Ends → Type 0
AreBehind f x y r = (k : Ending) → HasValue f (end_of r k) (λ a. then_literals (λ k. ends_at x k a) (λ k. ends_at y k a) k)

-- of what counts only where a literal is true
abbrev pub AreAlso : Cnf → Lit → Ends → Ends → Type 0
AreAlso f on x r = (k : Ending) → HasValue f (end_of r k) (λ a. if lit_value on a then ends_at x k a else false)
