use Rattle.expr_rewriter.proofs.FormSides.{tested}
use Rattle.cell_merge.proofs.SortLaws.{sort-bit}
use Rattle.cell_merge.specs.Sorts.{truth}
use Rattle.expr_rewriter.proofs.relating.own.Goals as goal

pub returns-clause-shows : goal.returns-clause-shows
returns-clause-shows c =
    tested c.args.b.now c.test.new.b c.bit.new.self c.args.op.now c.args.x c.args.form.now c.in_ok-l.l
    c.in_ok-cell.cell c.sure.result
    c.in_ok-cell.ensures.grows c.in_ok-l.ensures.tests c.in_ok-cell.ensures.value
    (c.sure.ensures.cells truth (sort-bit c.test.new.b c.bit.new.self c.in_ok-l.l c.in_ok-cell.cell
    c.in_ok-cell.ensures.cell)) c.sure.ensures.shows
