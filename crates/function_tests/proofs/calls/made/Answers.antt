use Rattle.std.proofs.Common.{sym}
use Rattle.cell_merge.specs.Sorts.{number}
use Rattle.function_tests.proofs.calls.made.Goals as goal

pub make-requires-clause-set : goal.make-requires-clause-set
make-requires-clause-set c = record { sort = number; is = c.in_ok-from.ensures.set }

pub make-requires-clause-results : goal.make-requires-clause-results
make-requires-clause-results c = record { count = rw c.as_slice.ensures.value (sym c.in_ok-from.ensures.count); sort = number; cells = rw c.as_slice.ensures.value c.in_ok-from.ensures.results }
