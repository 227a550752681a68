use Rattle.std.proofs.Common.{ap}
use Rattle.typed_cells.specs.KindSorts.{record_sort, tuple_sort}
use Rattle.typed_cells.proofs.PartSorts.{fields-sorts, kinds-sorts}
use Rattle.typed_cells.proofs.laws.kinds_have_sorts_of_parts.Goals as goal

pub returns-clause-tuples : goal.returns-clause-tuples
returns-clause-tuples c = λ ks. ap tuple_sort (kinds-sorts ks)

pub returns-clause-records : goal.returns-clause-records
returns-clause-records c = λ names ks. ap record_sort (fields-sorts names ks)
