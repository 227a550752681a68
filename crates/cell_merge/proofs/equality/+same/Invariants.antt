use Rattle.std.proofs.Common.{◌+◌, ◌*◌, take, max}
use Rattle.sat_formula.specs.Formula.{Grows, HasValue}
use Rattle.tla_values.specs.Order.{same_value}
use Rattle.cell_arena.specs.Cells.{kind_at}
use Rattle.cell_arena.specs.Decode.{decode}
use Rattle.cell_merge.specs.Composites.{parts_of}
use Rattle.cell_merge.specs.Edges.{any_edge}
use Rattle.cell_merge.specs.inner.Composites.{TestsParts}
use Rattle.cell_merge.specs.inner.Items.{TellStanding, IsRow, ComparesItems, heads_of, item_at}
use Rattle.cell_merge.specs.inner.Places.{TestsPlaces}
use Rattle.cell_merge.proofs.equality.+same.Given as goal

abbrev pub decreases-stands : goal.decreases-stands
decreases-stands l = 8 * l.x.of.index + 3

abbrev pub decreases-standing : goal.decreases-standing
decreases-standing l = 8 * l.x.index + 4

abbrev pub decreases-same_item : goal.decreases-same_item
decreases-same_item l = 8 * max l.x.of.index l.y.of.index + 2

abbrev pub decreases-row : goal.decreases-row
decreases-row l = 8 * max l.x.of.index l.y.index + 3

abbrev pub decreases-compare : goal.decreases-compare
decreases-compare l = 8 * max l.x.index l.y.index + 4

abbrev pub decreases-same_items : goal.decreases-same_items
decreases-same_items l = 8 * max l.x.index l.y.index + 5

abbrev pub decreases-part_tests : goal.decreases-part_tests
decreases-part_tests l = 8 * max l.x.index l.y.index + 4

abbrev pub decreases-same_parts : goal.decreases-same_parts
decreases-same_parts l = 8 * max l.x.index l.y.index + 5

abbrev pub decreases-same_sequences : goal.decreases-same_sequences
decreases-same_sequences l = 8 * max l.x.index l.y.index + 5

abbrev pub decreases-same_in : goal.decreases-same_in
decreases-same_in l = 8 * max l.x.index l.y.index + 6

abbrev pub invariant-standing-loop-i : goal.invariant-standing-loop-i
invariant-standing-loop-i l = record {
  grows : Grows l.fn.formula l.formula;
  tells : TellStanding l.arena l.formula (kind_at l.arena.kinds l.x) l.i l.all.items;
}

abbrev pub invariant-stands-loop-i : goal.invariant-stands-loop-i
invariant-stands-loop-i l = record {
  grows : Grows l.fn.formula l.formula;
  value : HasValue l.formula l.hidden (λ a. any_edge a (decode l.arena a) (same_value (decode l.arena a l.argument)) (take l.i (heads_of (kind_at l.arena.kinds l.x.of))));
}

abbrev pub invariant-row-loop-j : goal.invariant-row-loop-j
invariant-row-loop-j l = record {
  grows : Grows l.fn.formula l.formula;
  row : IsRow l.arena l.formula (λ a. item_at (decode l.arena a) (kind_at l.arena.kinds l.x.of) l.x.place) (kind_at l.arena.kinds l.y) l.theirs l.j l.row.items;
}

abbrev pub invariant-compare-loop-i : goal.invariant-compare-loop-i
invariant-compare-loop-i l = record {
  grows : Grows l.fn.formula l.formula;
  compares : ComparesItems l.arena l.formula (kind_at l.arena.kinds l.x) (kind_at l.arena.kinds l.y) l.ours l.theirs l.i l.found.items l.covered.items;
}

abbrev pub invariant-part_tests-loop-i : goal.invariant-part_tests-loop-i
invariant-part_tests-loop-i l = record {
  grows : Grows l.fn.formula l.formula;
  tests : TestsParts l.arena l.formula (parts_of (kind_at l.arena.kinds l.x)) (parts_of (kind_at l.arena.kinds l.y)) l.i l.tests.items;
}

abbrev pub invariant-same_sequences-loop-i : goal.invariant-same_sequences-loop-i
invariant-same_sequences-loop-i l = record {
  grows : Grows l.fn.formula l.formula;
  tests : TestsPlaces l.arena l.formula (kind_at l.arena.kinds l.x) (kind_at l.arena.kinds l.y) l.i l.tests.items;
}
