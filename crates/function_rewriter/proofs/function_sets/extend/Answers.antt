use Rattle.std.proofs.Common.{arith}
use Rattle.function_rewriter.proofs.FunctionListings.{extends-each}
use Rattle.function_rewriter.proofs.function_sets.extend.Goals as goal

pub returns-clause-extends : goal.returns-clause-extends
returns-clause-extends c = extends-each _ _ c.args.members.now _ _ (omega arith) c.in_ok-each.ensures.adds
