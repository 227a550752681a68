use Rattle.std.proofs.Common.{Some, rules}
use mir.Syntax.{w128}
use mir.Val.{SFits}
use Rattle.std.proofs.lemmas.Int.{to_z-of_z}
use Rattle.cell_merge.specs.Sorts.{name, number, truth}
use Rattle.expr_rewriter.proofs.LeafRows.{number_exact, number_shown, number_sort, text_shown, text_sort, truth_shown}
use Rattle.expr_rewriter.proofs.LeafRows.{truth_sort}
use Rattle.expr_rewriter.proofs.leaves.constant.Goals as goal

pub returns-in_ok-id-in-Bool-clause-shows : goal.returns-in_ok-id-in-Bool-clause-shows
returns-in_ok-id-in-Bool-clause-shows c =
    truth_shown _ (Some c.args.b.now.arena.width) _ _ c.args.value.now c.in-Bool.x c.in-Bool.is
    c.in_ok-id-in-Bool.ensures.cell c.sure.ensures.shows

pub returns-in_ok-id-in-Bool-clause-cells : goal.returns-in_ok-id-in-Bool-clause-cells
returns-in_ok-id-in-Bool-clause-cells c =
    truth_sort _ _ c.args.value.now c.in-Bool.x c.in-Bool.is
    (c.sure.ensures.cells truth c.in_ok-id-in-Bool.ensures.cell.sort)

pub returns-in_ok-id-in-Int-clause-shows : goal.returns-in_ok-id-in-Int-clause-shows
returns-in_ok-id-in-Int-clause-shows c =
    let f : SFits w128 c.in-Int.n = search rules in
    number_shown c.args.b.now _ _ _ _ c.args.value.now c.in-Int.n c.in-Int.is c.in_ok-id-in-Int.ensures.grows
    (number_exact _ _ _ _ (to_z-of_z w128 c.in-Int.n f) c.in_ok-id-in-Int.ensures.cell) c.big_where.ensures.shows

pub returns-in_ok-id-in-Int-clause-cells : goal.returns-in_ok-id-in-Int-clause-cells
returns-in_ok-id-in-Int-clause-cells c =
    number_sort _ _ c.args.value.now c.in-Int.n c.in-Int.is
    (c.big_where.ensures.cells number c.in_ok-id-in-Int.ensures.cell.sort)

pub returns-in_ok-id-in-Text-clause-shows : goal.returns-in_ok-id-in-Text-clause-shows
returns-in_ok-id-in-Text-clause-shows c =
    text_shown _ (Some c.args.b.now.arena.width) _ _ c.args.value.now _ c.in-Text.is c.in_ok-id-in-Text.ensures.cell
    c.sure-in-Text.ensures.shows

pub returns-in_ok-id-in-Text-clause-cells : goal.returns-in_ok-id-in-Text-clause-cells
returns-in_ok-id-in-Text-clause-cells c =
    text_sort _ _ c.args.value.now _ c.in-Text.is
    (c.sure-in-Text.ensures.cells name c.in_ok-id-in-Text.ensures.cell.sort)
