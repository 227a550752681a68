use Rattle.std.proofs.Common.{refl}
use Rattle.row_tests.specs.Shapes.{record_sort}
use Rattle.row_tests.proofs.sorts.are_records.Goals as goal

pub returns-then-is_record : goal.returns-then-is_record
returns-then-is_record c = λ t. record {
  sort = record_sort;
  left = c.if-is_record.ensures refl;
  right = c.is_record-then-is_record.ensures t;
}
