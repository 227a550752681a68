use Rattle.std.proofs.Common.{ℕ, ap, ◌∙◌, sym, pos, None}
use Rattle.tla_values.specs.Integers.{fits_width}
use Rattle.cell_merge.proofs.Edges.{sort-there}
use Rattle.function_operators.proofs.Shown.{item_shown, item_big}
use Rattle.function_operators.proofs.composites.item.Goals as goal

pub returns-then-fits-clause-row : goal.returns-then-fits-clause-row
returns-then-fits-clause-row c =
    item_shown c.args.b.now _ _ _ _ c.requires c.item-id.ensures
    (ap (λ (w : ℕ). fits_width w (pos c.args.i)) (sym c.width.ensures.same)
    ∙ (sym c.fits.ensures ∙ c.if-fits.true)) c.sure.ensures.shows

pub returns-then-fits-clause-cells : goal.returns-then-fits-clause-cells
returns-then-fits-clause-cells c = λ n s h. c.sure.ensures.cells _ (c.item-id.ensures.sort n s h)

pub returns-clause-row : goal.returns-clause-row
returns-clause-row c =
    item_big c.args.b.now _ _ _
    (ap (λ (w : ℕ). fits_width w (pos c.args.i)) (sym c.width.ensures.same) ∙ (sym c.fits.ensures ∙ c.if-fits.false))
    (c.big_where.ensures.shows (λ a. None) (record {
      there = sort-there _ _ _ (c.item-id.ensures.sort c.requires.count c.requires.sorts c.requires.is);
      below = c.top.ensures.below;
      tells = λ a s. c.top.ensures.forced a s;
    }))

pub returns-clause-cells : goal.returns-clause-cells
returns-clause-cells c = λ n s h. c.big_where.ensures.cells _ (c.item-id.ensures.sort n s h)
