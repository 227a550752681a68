use Rattle.cell_merge.specs.Sorts.{number}
use Rattle.function_rewriter.specs.Arrows.{HasDomain}
use Rattle.function_tests.proofs.calls.arguments.Goals as goal

pub domain-requires : goal.domain-requires
domain-requires c = HasDomain.of_function number number c.in_ok-f.ensures.sort
