use Rattle.function_tests.specs.Shapes.{entry_sort}
use Rattle.function_tests.proofs.Shaped.{has-number, has-pair, number-there, pair-there, one-type}
use Rattle.function_tests.proofs.solving.of_entries.Goals as goal

pub field-first-requires : goal.field-first-requires
field-first-requires c = has-number _ _ _ c.requires.right c.in_ok-n.ensures

pub field-second-requires : goal.field-second-requires
field-second-requires c = has-pair _ _ _ c.requires.right c.in_ok-p.ensures

pub field-requires : goal.field-requires
field-requires c = has-number _ _ _ c.requires.left c.in_ok-n.ensures

pub field-requires-in-p : goal.field-requires-in-p
field-requires-in-p c = has-pair _ _ _ c.requires.left c.in_ok-p.ensures

pub with_field-requires-clause-field : goal.with_field-requires-clause-field
with_field-requires-clause-field c = has-number _ _ _ c.requires.left c.in_ok-n.ensures

pub with_field-requires-clause-there : goal.with_field-requires-clause-there
with_field-requires-clause-there c = number-there _ _ _ _ c.requires.right c.in_ok-n.ensures c.field-first.ensures

pub with_field-requires-in-withp-clause-field : goal.with_field-requires-in-withp-clause-field
with_field-requires-in-withp-clause-field c = has-pair _ _ _ c.requires.left c.in_ok-p.ensures

pub with_field-requires-in-withp-clause-there : goal.with_field-requires-in-withp-clause-there
with_field-requires-in-withp-clause-there c = pair-there _ _ _ _ c.requires.right c.in_ok-p.ensures c.field-second.ensures

pub of_two-requires-clause-types : goal.of_two-requires-clause-types
of_two-requires-clause-types c = one-type _ entry_sort _ _ c.requires.left c.requires.right
