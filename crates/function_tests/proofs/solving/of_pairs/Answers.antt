use Rattle.function_tests.specs.Shapes.{pair_sort}
use Rattle.function_tests.proofs.Shaped.{first-there, second-there, one-type}
use Rattle.function_tests.proofs.solving.of_pairs.Goals as goal

pub with_item-requires-clause-there : goal.with_item-requires-clause-there
with_item-requires-clause-there c = first-there _ _ _ c.requires.right c.item-first.ensures

pub with_item-requires-in-with2-clause-there : goal.with_item-requires-in-with2-clause-there
with_item-requires-in-with2-clause-there c = second-there _ _ _ c.requires.right c.item-second.ensures

pub of_two-requires-clause-types : goal.of_two-requires-clause-types
of_two-requires-clause-types c = one-type _ pair_sort _ _ c.requires.left c.requires.right
