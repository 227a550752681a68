use Rattle.word_blaster.proofs.Words.{WordBelow-later}
use Rattle.sat_formula.proofs.Extension.{HasValue-later}
use Rattle.cell_merge.proofs.Edges.{negated-value}
use Rattle.sequence_rewriter.proofs.Bits.{is-less}
use Rattle.sequence_rewriter.proofs.ends.one_less.Goals as goal

pub subtract_bit-requires-clause-x_below : goal.subtract_bit-requires-clause-x_below
subtract_bit-requires-clause-x_below c = WordBelow-later _ _ c.args.bits.now c.requires c.in_ok-empty.ensures.grows.vars

pub returns-clause-less : goal.returns-clause-less
returns-clause-less c =
    is-less c.equals_number.new.f _ c.args.bits.now _ _ _ (HasValue-later _ _ _ _ c.in_ok-empty.ensures.value c.in_ok-less.ensures.grows) (λ a. negated-value _ _ a c.negated.ensures) c.in_ok-less.ensures.word.below
    c.in_ok-less.ensures.value
