use Rattle.std.proofs.lemmas.Int.{to_z-of_z}
use mir.Syntax.{w128}
use Rattle.cell_merge.specs.Sorts.{number, set_of}
use Rattle.value_operators.proofs.RangeRows.{range-shows}
use Rattle.value_operators.proofs.ranges.range.Goals as goal

pub returns-clause-cells : goal.returns-clause-cells
returns-clause-cells c = c.sure.ensures.cells (set_of number) c.in_ok-id.ensures.sort

pub returns-clause-shows : goal.returns-clause-shows
returns-clause-shows c =
    let low = to_z-of_z w128 c.args.low c.ranges.low in
    let high = to_z-of_z w128 c.args.high c.ranges.high in
    let least = to_z-of_z w128 c.into_width-least.result (record { sfits = c.into_width-least.type_inv }) in
    let greatest = to_z-of_z w128 c.into_width-greatest.result (record { sfits = c.into_width-greatest.type_inv }) in
    let wide = c.width-width.ensures.same in
    range-shows c.args.b.now _ c.args.x c.args.y _ _ _ _ _ _ c.requires
    (rw (low, wide) at c.into_width-least.ensures.nearest) (rw (high, wide) at c.into_width-greatest.ensures.nearest)
    (rw (least, greatest) at c.in_ok-id.ensures.value) c.sure.ensures.shows
