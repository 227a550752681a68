use Rattle.std.proofs.Common.{refl}
use Rattle.row_tests.proofs.Shaped.{has-item}
use Rattle.row_tests.proofs.sorts.has_item.Goals as goal

pub returns : goal.returns
returns c = λ t. has-item _ _ _ _ (c.if-not-is_tuple.ensures refl) c.part_count-count.ensures c.if-i-lt1.false t
