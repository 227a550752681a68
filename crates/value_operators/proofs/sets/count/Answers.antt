use Rattle.std.proofs.Common.{◌∷◌, [], length, pos, sym, ◌∙◌, Some}
use Rattle.tla_meaning.specs.declared.op.Op.TheVariants as op
use Rattle.tla_meaning.specs.Numbers.{number as number_under}
use Rattle.cell_merge.specs.Sorts.{number}
use Rattle.outcome_cells.proofs.Yielding.{number-big}
use Rattle.set_rewriter.specs.Counts.{size}
use Rattle.value_operators.proofs.NewCells.{row-by, count-yields}
use Rattle.value_operators.proofs.Rows.{set-row}
use Rattle.value_operators.proofs.SetRows.{set-cell}
use Rattle.value_operators.proofs.sets.count.Goals as goal

pub returns-clause-cells : goal.returns-clause-cells
returns-clause-cells c = c.big_where.ensures.cells number c.in_ok-id.ensures.counts.sort

pub returns-clause-row : goal.returns-clause-row
returns-clause-row c =
    let b = c.args.b.now in
    let r = c.requires in
    let w = Some b.arena.width in
    let shows = c.big_where.ensures.shows _ (count-yields _ _ _ _ _ c.in_ok-id.ensures.counts) in
    row-by b _ op.Cardinality (c.args.set ∷ []) _ _ c.in_ok-id.ensures.grows shows
    (λ a s p. number-big w p (size b.arena a c.args.set)
    ∙ sym (set-row p (λ xs. number_under w p (pos (length xs))) _ (set-cell b a r.sort c.args.set r.is)))
