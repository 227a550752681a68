use Rattle.std.proofs.Common.{refl}
use Rattle.cell_merge.proofs.Edges.{negated-value}
use Rattle.word_blaster.proofs.Words.{WordBelow-later}
use Rattle.sequence_rewriter.proofs.Cutting.{is-cut}
use Rattle.sequence_rewriter.proofs.slicing.cut_at.Goals as goal

pub span_of-requires-clause-last : goal.span_of-requires-clause-last
span_of-requires-clause-last c = rw c.as_slice.ensures.value (WordBelow-later _ _ c.args.ends.now.last.bits.items c.requires.ends.last c.in_ok-shift.ensures.grows.vars)

pub returns-clause-cut : goal.returns-clause-cut
returns-clause-cut c =
    is-cut _ _ _ c.args.ends.now c.args.bits.now (record { shift = c.in_ok-shift.shift; count = c.in_ok-count.count; wrong = c.in_ok-wrong.wrong }) _ _ c.in_ok-shift.fine c.in_ok-shift.shift.items c.in_ok-count.ensures.grows c.in_ok-wrong.ensures.grows c.in_ok-shift.ensures.start
    (rw (c.as_slice.ensures.value, c.as_slice-2.ensures.value) at c.in_ok-count.ensures.span) c.in_ok-wrong.ensures.value
    (λ a. negated-value _ _ a c.negated.ensures) (λ a. negated-value _ _ a c.negated-2.ensures) refl
