use Rattle.std.proofs.Common.{◌+◌, ◌*◌}
use Rattle.cell_arena.specs.Cells.{kind_at}
use Rattle.cell_arena.specs.Growth.{Grows}
use Rattle.cell_merge.specs.Composites.{parts_of}
use Rattle.cell_merge.specs.Arrows.{arrows_of}
use Rattle.cell_merge.specs.inner.Composites.{ChoosesParts}
use Rattle.cell_merge.specs.inner.Fronts.{ChoosesArrows}
use Rattle.cell_merge.proofs.choice.+choose.Given as goal

abbrev pub decreases-choose_at : goal.decreases-choose_at
decreases-choose_at l = 8 * (l.x.index + l.y.index) + 1

abbrev pub decreases-choose_parts : goal.decreases-choose_parts
decreases-choose_parts l = 8 * (l.x.index + l.y.index) + 2

abbrev pub decreases-choose_arrow : goal.decreases-choose_arrow
decreases-choose_arrow l = 8 * (l.x.index + l.y.index) + 1

abbrev pub decreases-choose_arrows : goal.decreases-choose_arrows
decreases-choose_arrows l = 8 * (l.x.index + l.y.index) + 2

abbrev pub decreases-choose_function : goal.decreases-choose_function
decreases-choose_function l = 8 * (l.x.index + l.y.index) + 3

abbrev pub decreases-choose_sequence : goal.decreases-choose_sequence
decreases-choose_sequence l = 8 * (l.x.index + l.y.index) + 3

abbrev pub decreases-choose_composite : goal.decreases-choose_composite
decreases-choose_composite l = 8 * (l.x.index + l.y.index) + 3

abbrev pub decreases-choose_part : goal.decreases-choose_part
decreases-choose_part l = 8 * (l.x.index + l.y.index) + 4

abbrev pub decreases-choose_cell : goal.decreases-choose_cell
decreases-choose_cell l = 8 * (l.x.index + l.y.index) + 5

abbrev pub invariant-choose_parts-loop-i : goal.invariant-choose_parts-loop-i
invariant-choose_parts-loop-i l = record {
  grows : Grows l.initial.b l.b;
  chosen : ChoosesParts l.initial.b l.b l.l (parts_of (kind_at l.initial.b.arena.kinds l.x)) (parts_of (kind_at l.initial.b.arena.kinds l.y)) l.i l.out.items;
}

abbrev pub invariant-choose_arrows-loop-i : goal.invariant-choose_arrows-loop-i
invariant-choose_arrows-loop-i l = record {
  grows : Grows l.initial.b l.b;
  chosen : ChoosesArrows l.initial.b l.b l.l (arrows_of (kind_at l.initial.b.arena.kinds l.x)) (arrows_of (kind_at l.initial.b.arena.kinds l.y)) l.i l.out.items;
}
