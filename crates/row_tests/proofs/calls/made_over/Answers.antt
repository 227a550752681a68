use Rattle.std.proofs.Common.{refl, rules}
use Rattle.cell_merge.specs.Sorts.{number}
use Rattle.row_tests.proofs.calls.made_over.Goals as goal

pub make-requires-clause-set : goal.make-requires-clause-set
make-requires-clause-set c = record { sort = number; is = c.if-not-is_set.ensures refl }

pub make-requires-clause-results : goal.make-requires-clause-results
make-requires-clause-results c = record { count = search rules; sort = number; cells = search rules }
