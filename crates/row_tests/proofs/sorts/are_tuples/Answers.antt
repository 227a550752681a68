use Rattle.std.proofs.Common.{refl}
use Rattle.row_tests.proofs.Shaped.{tuples-of-one-type}
use Rattle.row_tests.proofs.sorts.are_tuples.Goals as goal

pub returns : goal.returns
returns c = λ t.
    tuples-of-one-type _ _ _ _ _ (c.if-not-is_tuple.ensures refl) (c.if-not-is_tuple-2.ensures refl)
    c.part_count-left.ensures c.part_count-right.ensures t
