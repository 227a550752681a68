use Rattle.row_tests.proofs.Counted.{small-count}
use Rattle.sequence_rewriter.proofs.Bits.{is-count}
use Rattle.row_tests.proofs.sequences.count_word.Goals as goal

pub returns-clause-count : goal.returns-clause-count
returns-clause-count c =
    is-count _ _ c.args.bits.now _ _ c.in_ok-word.ensures.grows
    (λ a s. small-count c.args.bits.now a c.requires.few) c.in_ok-word.ensures.exact
