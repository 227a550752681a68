use Rattle.cell_merge.proofs.Edges.{negated-value}
use Rattle.word_blaster.proofs.Words.{WordBelow-later}
use Rattle.sequence_rewriter.proofs.Cutting.{is-start}
use Rattle.sequence_rewriter.proofs.slicing.start_of.Goals as goal

pub count_less-requires-clause-x_below : goal.count_less-requires-clause-x_below
count_less-requires-clause-x_below c = WordBelow-later _ _ c.args.bits.now c.requires.bits c.in_ok-zero.ensures.grows.vars

pub count_less-requires-clause-y_below : goal.count_less-requires-clause-y_below
count_less-requires-clause-y_below c = rw c.as_slice-2.ensures.value (WordBelow-later _ _ c.args.ends.now.last.bits.items c.requires.ends.last c.in_ok-zero.ensures.grows.vars)

pub returns-clause-start : goal.returns-clause-start
returns-clause-start c =
    is-start _ _ _ _ _ _ c.args.ends.now c.args.bits.now _ _ _ _ _ _ _ _ _ _ c.in_ok-past.ensures.grows c.in_ok-reaches.ensures.grows c.in_ok-some.ensures.grows c.in_ok-starts.ensures.grows c.in_ok-fine.ensures.grows
    (rw c.as_slice.ensures.value at c.in_ok-zero.ensures.less) (rw c.as_slice-2.ensures.value at c.in_ok-past.ensures.value)
    c.in_ok-reaches.ensures.value c.in_ok-some.ensures.value c.in_ok-starts.ensures.value c.in_ok-fine.ensures.value
    (λ a. negated-value _ _ a c.negated.ensures) (λ a. negated-value _ _ a c.negated-2.ensures) (λ a. negated-value _ _ a c.negated-3.ensures)
