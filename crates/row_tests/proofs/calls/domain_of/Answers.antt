use Rattle.std.proofs.Common.{refl}
use Rattle.cell_merge.specs.Sorts.{number}
use Rattle.function_rewriter.specs.Arrows.{HasDomain}
use Rattle.row_tests.proofs.calls.domain_of.Goals as goal

pub domain-requires : goal.domain-requires
domain-requires c = HasDomain.of_function number number (c.if-is_function.ensures refl)
