use Rattle.std.proofs.Common.{refl}
use Rattle.row_tests.proofs.Shaped.{short-domain}
use Rattle.row_tests.proofs.sorts.is_short.Goals as goal

pub returns : goal.returns
returns c = λ t.
    short-domain _ _ _ _ (c.if-not-is_tuple.ensures refl) c.width.ensures.same c.width.ensures.narrow.0
    c.part_count-count.ensures t
