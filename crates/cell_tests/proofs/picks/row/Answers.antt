use Rattle.std.proofs.Common.{◌≡◌, ℕ, ap, ◌∙◌, IsTrue, ℤ}
use Rattle.std.proofs.lemmas.Int.{to_z-of_z}
use mir.Syntax.{w128}
use Rattle.tla_values.specs.Integers.{fits_width}
use Rattle.cell_arena.specs.Cells.{Cells}
use Rattle.cell_arena.proofs.Growing.{Grows-trans}
use Rattle.cell_merge.specs.Sorts.{number}
use Rattle.cell_merge.proofs.SortLaws.{OfSort-later}
use Rattle.set_rewriter.proofs.Numbers.{width-before}
use Rattle.cell_tests.proofs.picks.row.Goals as goal

pub choose_cell-requires-clause-types : goal.choose_cell-requires-clause-types
choose_cell-requires-clause-types c = record {
  sort = number;
  left = c.in_ok-last.ensures.sort;
  right = OfSort-later _ _ number _ c.in_ok-x.ensures.sort c.in_ok-last.ensures.grows;
}

pub range-requires-clause-numbers : goal.range-requires-clause-numbers
range-requires-clause-numbers c =
    let x = OfSort-later _ _ number _ c.in_ok-x.ensures.sort c.in_ok-last.ensures.grows in
    record { left = OfSort-later _ _ number _ x c.in_ok-y.ensures.grows; right = c.in_ok-y.ensures.chosen.sort number c.in_ok-last.ensures.sort x }

fits-there : (v w : ℕ) (m n : ℤ) → v ≡ w → m ≡ n → IsTrue (fits_width w n) → IsTrue (fits_width v m)
fits-there v w m n e f h = rw (e, f) h

pub range-requires-clause-low_fits : goal.range-requires-clause-low_fits
range-requires-clause-low_fits c =
    let grows = Grows-trans _ _ _ c.in_ok-l.ensures.grows (Grows-trans _ _ _ c.in_ok-x.ensures.grows (Grows-trans _ _ _ c.in_ok-last.ensures.grows c.in_ok-y.ensures.grows)) in
    fits-there _ _ _ _ (width-before _ _ grows ∙ ap (λ (k : Cells). k.width) c.in_ok-b.ensures.arena) (to_z-of_z w128 c.args.low c.ranges.low) c.requires.low

pub range-requires-clause-high_fits : goal.range-requires-clause-high_fits
range-requires-clause-high_fits c =
    let grows = Grows-trans _ _ _ c.in_ok-l.ensures.grows (Grows-trans _ _ _ c.in_ok-x.ensures.grows (Grows-trans _ _ _ c.in_ok-last.ensures.grows c.in_ok-y.ensures.grows)) in
    fits-there _ _ _ _ (width-before _ _ grows ∙ ap (λ (k : Cells). k.width) c.in_ok-b.ensures.arena) (to_z-of_z w128 c.args.high c.ranges.high) c.requires.high
