use Rattle.rewriting_tests.proofs.Operands.{operand-sound-of}
use Rattle.rewriting_tests.proofs.jobs.operand.Goals as goal

pub returns-in-Equal-len2 : goal.returns-in-Equal-len2
returns-in-Equal-len2 c =
    operand-sound-of c.args.kernel.now _ _ _ _ c.requires c.as_slice.ensures c.in-len1-up.len_at_least c.invariant-item.is c.in-Equal-len2.is-0
    c.as_slice-2.ensures c.in-Equal-len2.len_at_least c.x-item.is
