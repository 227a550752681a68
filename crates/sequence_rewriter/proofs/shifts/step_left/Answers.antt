use Rattle.sequence_rewriter.proofs.Moves.{step-lists, step-count}
use Rattle.sequence_rewriter.proofs.shifts.step_left.Goals as goal

pub choose_list-requires-clause-types : goal.choose_list-requires-clause-types
choose_list-requires-clause-types c =
    rw (c.as_slice.ensures.value, c.in_ok-extend_from_slice.ensures.items, c.in_ok-moved.ensures.items, c.split_at.ensures.back, c.split_at-2.ensures.back) (step-lists _ c.args.by c.args.cells.now c.requires.types)

pub choose_list-requires-clause-count : goal.choose_list-requires-clause-count
choose_list-requires-clause-count c =
    rw (c.as_slice.ensures.value, c.in_ok-extend_from_slice.ensures.items, c.in_ok-moved.ensures.items, c.split_at.ensures.back, c.split_at-2.ensures.back) (step-count c.args.by c.args.cells.now c.requires.within)

pub returns-clause-moved : goal.returns-clause-moved
returns-clause-moved c =
    rw (c.as_slice.ensures.value, c.in_ok-extend_from_slice.ensures.items, c.in_ok-moved.ensures.items, c.split_at.ensures.back, c.split_at-2.ensures.back, step-count c.args.by c.args.cells.now c.requires.within) at c.in_ok-out.ensures.chosen
