use Rattle.std.proofs.Common.{Bool, List, refl}
use Rattle.sat_formula.specs.Lit.{lit_value}
use Rattle.tla_values.specs.declared.value.Value.TheVariants as value
use Rattle.cell_merge.specs.Sorts.{truth}
use Rattle.cell_merge.proofs.SortLaws.{sort-bit}
use Rattle.value_operators.proofs.NewCells.{sure-same}
use Rattle.value_operators.proofs.making.truth_of.Goals as goal

pub returns-clause-cells : goal.returns-clause-cells
returns-clause-cells c = c.sure.ensures.cells truth (sort-bit _ _ _ _ c.in_ok-id.ensures.cell)

pub returns-clause-shows : goal.returns-clause-shows
returns-clause-shows c =
    let v = λ (a : List Bool). value.Bool (lit_value c.args.l a) in
    sure-same _ _ _ v _ c.in_ok-id.ensures.value c.sure.ensures.shows (λ a p. refl)
