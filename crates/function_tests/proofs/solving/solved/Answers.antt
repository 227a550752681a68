use Rattle.cell_merge.specs.Sorts.{truth, set_of}
use Rattle.cell_merge.proofs.SortLaws.{OfSort-later}
use Rattle.function_tests.specs.Shapes.{pair_sort, entry_sort, two_sort}
use Rattle.function_tests.proofs.Shaped.{one-type}
use Rattle.function_tests.proofs.solving.solved.Goals as goal

pub of_pairs-requires-clause-left : goal.of_pairs-requires-clause-left
of_pairs-requires-clause-left c = OfSort-later _ _ pair_sort _ c.in_ok-first_pair.ensures.sort c.in_ok-second_pair.ensures.grows

pub of_entries-requires-clause-left : goal.of_entries-requires-clause-left
of_entries-requires-clause-left c = OfSort-later _ _ entry_sort _ c.in_ok-first_entry.ensures.sort c.in_ok-second_entry.ensures.grows

pub of_two-requires-clause-types : goal.of_two-requires-clause-types
of_two-requires-clause-types c =
    let s = two_sort truth (set_of entry_sort) in
    one-type _ s _ _ (OfSort-later _ _ s _ c.in_ok-first_box.ensures.sort c.in_ok-second_box.ensures.grows) c.in_ok-second_box.ensures.sort
