use Rattle.cell_merge.specs.Sorts.{number, truth, function_of, sequence_of}
use Rattle.cell_merge.proofs.SortLaws.{OfSort-later}
use Rattle.function_tests.proofs.Shaped.{one-type}
use Rattle.function_tests.proofs.equalities.compared.Goals as goal

pub same-requires : goal.same-requires
same-requires c = one-type _ (sequence_of number) _ _ (OfSort-later _ _ (sequence_of number) _ c.in_ok-first_sequence.ensures.sort c.in_ok-second_sequence.ensures.grows) c.in_ok-second_sequence.ensures.sort

pub same-requires-2 : goal.same-requires-2
same-requires-2 c = one-type _ (function_of number truth) _ _ (OfSort-later _ _ (function_of number truth) _ c.in_ok-first_function.ensures.sort c.in_ok-second_function.ensures.grows) c.in_ok-second_function.ensures.sort
