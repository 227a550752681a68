use Rattle.std.proofs.Common.{sym, ◌∙◌}
use Rattle.sequence_rewriter.proofs.Moves.{back-lists, back-counts}
use Rattle.sequence_rewriter.proofs.shifts.step_right.Goals as goal

pub choose_list-requires-clause-types : goal.choose_list-requires-clause-types
choose_list-requires-clause-types c =
    rw (c.as_slice.ensures.value, c.as_slice-2.ensures.value, c.in_ok-extend_from_slice.ensures.items, c.in_ok-extend_from_slice-2.ensures.items, c.in_ok-moved.ensures.items, c.in_ok-stayed.ensures.items, c.split_at.ensures.front, c.split_at-2.ensures.back)
    (back-lists _ c.args.by c.args.cells.now c.requires.types)

pub choose_list-requires-clause-count : goal.choose_list-requires-clause-count
choose_list-requires-clause-count c =
    let n = back-counts c.args.by c.args.cells.now c.requires.within in
    rw (c.as_slice.ensures.value, c.as_slice-2.ensures.value, c.in_ok-extend_from_slice.ensures.items, c.in_ok-extend_from_slice-2.ensures.items, c.in_ok-moved.ensures.items, c.in_ok-stayed.ensures.items, c.split_at.ensures.front, c.split_at-2.ensures.back)
    (n.0 ∙ sym n.1)

pub returns-clause-moved : goal.returns-clause-moved
returns-clause-moved c =
    rw (
      c.as_slice.ensures.value,
      c.as_slice-2.ensures.value,
      c.in_ok-extend_from_slice.ensures.items,
      c.in_ok-extend_from_slice-2.ensures.items,
      c.in_ok-moved.ensures.items,
      c.in_ok-stayed.ensures.items,
      c.split_at.ensures.front,
      c.split_at-2.ensures.back,
      (back-counts c.args.by c.args.cells.now c.requires.within).0,
    ) at c.in_ok-out.ensures.chosen
