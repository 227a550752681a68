-- Operators that join their operands: the row at the operands' values is the row at their outcomes' values.
use Rattle.std.proofs.Common.{◌≡◌, Bool, List, [], ◌∷◌, refl, sym, ◌∙◌, ap, subst}
use Rattle.sat_formula.specs.Lit.{lit_value}
use Rattle.tla_values.specs.declared.value.Value.{Value}
use Rattle.tla_meaning.specs.declared.outcome.Fault.TheVariants.{NoFault}
use Rattle.tla_meaning.specs.declared.outcome.Outcome.{Outcome}
use Rattle.tla_meaning.specs.Outcomes.{joined, values}
use Rattle.cell_arena.specs.Cells.{Cells as Arena}
use Rattle.cell_arena.specs.Decode.{decode}
use Rattle.outcome_cells.specs.declared.cells.Cells.{Cells}
use Rattle.outcome_cells.specs.Shows.{AllShow, Shows, cell_values}
use Rattle.outcome_cells.proofs.Showing.{first_value}

-- without a fault the operands' values are those of their cells
pub values_shown : (c : Arena) (a : List Bool) (xs : List Cells) (os : List Outcome) → AllShow c a xs os →
    joined os ≡ NoFault →
    values os ≡ cell_values c a xs
values_shown c a [] [] h e = refl
values_shown c a [] (o ∷ os) h e = absurd h
values_shown c a (x ∷ xs) [] h e = absurd h
values_shown c a (x ∷ xs) (o ∷ os) h e =
    let p = first_value (lit_value x.wrong a) (lit_value x.big a) (decode c a x.cell) o os h.0.shown e in
    p.1.1 ∙ ap (λ (vs : List Value). decode c a x.cell ∷ vs) (values_shown c a xs os h.1 p.1.0)

-- so a row at these is one at the outcomes' values
pub strict_row : (c d : Arena) (a : List Bool) (xs : List Cells) (os : List Outcome) (r : Cells) (f : List Value → Outcome) →
    AllShow c a xs os → Shows d a r (f (cell_values c a xs)) → joined os ≡ NoFault → Shows d a r (f (values os))
strict_row c d a xs os r f h k e = subst (λ (vs : List Value). Shows d a r (f vs)) (sym (values_shown c a xs os h e)) k
