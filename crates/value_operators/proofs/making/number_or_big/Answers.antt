use Rattle.std.proofs.Common.{◌<◌, arith}
use Rattle.cell_merge.specs.Sorts.{number}
use Rattle.cell_merge.proofs.SortLaws.{sort-word}
use Rattle.outcome_cells.proofs.Later.{ShowsAt-same}
use Rattle.value_operators.proofs.NewCells.{number_where, yields-number, big-number}
use Rattle.value_operators.proofs.making.number_or_big.Goals as goal

pub returns-clause-cells : goal.returns-clause-cells
returns-clause-cells c = c.big_where.ensures.cells number (sort-word _ _ _ _ c.in_ok-id.ensures.cell)

pub returns-clause-shows : goal.returns-clause-shows
returns-clause-shows c =
    let word = c.args.word in
    let l = c.args.outside in
    let named : l.var < c.word.new.self.formula.vars =
    (let g = c.in_ok-id.ensures.grows.formula.vars in let h = c.requires.outside in omega arith) in
    let yields = yields-number _ _ _ _ named c.in_ok-id.ensures.value in
    ShowsAt-same _ _ _ _ (c.big_where.ensures.shows (number_where l word) yields)
    (λ a s p. big-number p l word a)
