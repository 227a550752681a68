-- Choices of members of small sets, by computing.
use Rattle.std.proofs.Common.{◌≡◌, ℕ, zero, suc, ◌<◌, Bool, true, false, ◌||◌, List, [], ◌∷◌, get_or, pos, refl, arith}
use Rattle.sat_formula.specs.declared.lit.Lit.{Lit}
use Rattle.sat_formula.specs.Lit.{lit_value}
use Rattle.tla_values.specs.declared.value.Value.{Value}
use Rattle.tla_values.specs.declared.value.Value.TheVariants as value
use Rattle.tla_meaning.specs.declared.outcome.Outcome.{Outcome}
use Rattle.tla_meaning.specs.Shapes.{choices}
use Rattle.cell_arena.specs.declared.kinds.CellId.{CellId}
use Rattle.cell_arena.specs.Cells.{Cells as Arena}
use Rattle.outcome_cells.specs.declared.cells.Cells.{Cells}
use Rattle.member_choices.specs.declared.choice.Choice.{Choice}
use Rattle.member_choices.specs.Choices.{AreChoices, BodiesShow}

abbrev top : Lit
top = record { var = 0; neg = false }

abbrev bottom : Lit
bottom = record { var = 0; neg = true }

abbrev a : List Bool
a = true ∷ []

-- the cell of a number
abbrev of : CellId → Value
of id = value.Int (pos id.index)

abbrev choice : Lit → List ℕ → Choice
choice l [] = record { there = l; cells = [] }
choice l (x ∷ xs) = record { there = l; cells = record { index = x } ∷ (choice l xs).cells }

abbrev int : ℕ → Value
int n = value.Int (pos n)

-- 5 is not there, 4 stands twice, and 3 behind it: the choices of one member of {3, 4}
abbrev of_one : List Choice
of_one = choice bottom (5 ∷ []) ∷ choice top (4 ∷ []) ∷ choice top (3 ∷ []) ∷ choice top (4 ∷ []) ∷ []

one-set : AreChoices a of of_one (choices ((int 3 ∷ int 4 ∷ []) ∷ []))
one-set p = turned (p (int 4 ∷ [])) (p (int 3 ∷ []))
  where
    turned : (x y : Bool) → (x || (y || (x || false))) ≡ (y || (x || false))
    turned true true = refl
    turned true false = refl
    turned false true = refl
    turned false false = refl

-- a member from each of {3, 4} and {7}
two-sets : AreChoices a of (choice top (3 ∷ 7 ∷ []) ∷ choice top (4 ∷ 7 ∷ []) ∷ [])
    (choices ((int 3 ∷ int 4 ∷ []) ∷ (int 7 ∷ []) ∷ []))
two-sets p = refl

-- from no set there is one choice, of no members, and from an empty set there is none
no-set : AreChoices a of (choice top [] ∷ []) (choices [])
no-set p = refl

empty-set : AreChoices a of (choice bottom (3 ∷ 7 ∷ []) ∷ []) (choices ([] ∷ (int 7 ∷ []) ∷ []))
empty-set p = refl

-- of a body at a choice that is not there nothing is asked
absent-body : (c : Arena) (bodies : List Cells) (body : List Value → Outcome) →
    BodiesShow c a (choice bottom (5 ∷ []) ∷ []) bodies body
absent-body c bodies body = record { at = λ i d x lt there. absurd (only i d lt there) }
  where
    only : (i : ℕ) (d : Choice) → i < 1 → lit_value (get_or (choice bottom (5 ∷ []) ∷ []) i d).there a ≡ true → ⊥
    only zero d lt e = cc
    only (suc i) d lt e = absurd (omega arith)
