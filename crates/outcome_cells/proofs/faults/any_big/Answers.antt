use Rattle.std.proofs.Common.{◌∙◌, ap}
use Rattle.std.specs.List.{list_any}
use Rattle.std.proofs.lemmas.List.Elements.{All-map}
use Rattle.sat_formula.specs.Lit.{IsBelow, lit_value}
use Rattle.outcome_cells.specs.declared.cells.Cells.{Cells}
use Rattle.outcome_cells.proofs.Joining.{any_map}
use Rattle.outcome_cells.proofs.faults.any_big.Goals as goal

pub any_of-requires : goal.any_of-requires
any_of-requires c =
    rw (c.as_slice.ensures.value, c.in_ok-lits.ensures)
    (All-map (IsBelow c.args.f.now.vars) (λ (x : Cells). x.big) c.args.xs.now c.requires)

pub returns-clause-value : goal.returns-clause-value
returns-clause-value c = record {
  below = c.in_ok-any.ensures.value.below;
  value = λ a s.
      c.in_ok-any.ensures.value.value a s ∙ ap (list_any (λ l. lit_value l a)) (c.as_slice.ensures.value ∙ c.in_ok-lits.ensures)
      ∙ any_map (λ l. lit_value l a) (λ (x : Cells). x.big) c.args.xs.now;
}
