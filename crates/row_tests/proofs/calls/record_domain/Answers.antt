use Rattle.std.proofs.Common.{refl}
use Rattle.cell_merge.specs.Sorts.{number}
use Rattle.function_rewriter.specs.Arrows.{HasDomain}
use Rattle.row_tests.specs.Shapes.{names}
use Rattle.row_tests.proofs.calls.record_domain.Goals as goal

pub domain-requires : goal.domain-requires
domain-requires c =
    HasDomain.of_record names (λ i. number) (c.if-not-is_record.ensures refl)
    (c.in_ok-knows_names.ensures c.if-not-branch.false)
