use Rattle.std.proofs.Common.{ap}
use Rattle.sat_formula.specs.declared.lit.Lit.{Lit}
use Rattle.cell_merge.proofs.Edges.{negated-value}
use Rattle.word_blaster.proofs.Words.{WordBelow-later}
use Rattle.sequence_rewriter.proofs.Numbers.{is-outside}
use Rattle.sequence_rewriter.proofs.places.outside.Goals as goal

pub count_less-requires-clause-x_below : goal.count_less-requires-clause-x_below
count_less-requires-clause-x_below c = WordBelow-later _ _ c.args.bits.now c.requires.bits c.in_ok-zero.ensures.grows.vars

pub count_less-requires-clause-y_below : goal.count_less-requires-clause-y_below
count_less-requires-clause-y_below c = rw c.as_slice-2.ensures.value (WordBelow-later _ _ c.args.index.now.bits.items c.requires.index c.in_ok-zero.ensures.grows.vars)

pub returns-clause-value : goal.returns-clause-value
returns-clause-value c =
    is-outside c.equals_number.new.f _ _ _ c.args.index.now c.args.bits.now _ _ _ _ _ _ _ c.in_ok-past.ensures.grows c.in_ok-within.ensures.grows c.in_ok-inside.ensures.grows
    (rw c.as_slice.ensures.value at c.in_ok-zero.ensures.value) (rw c.as_slice-2.ensures.value at c.in_ok-past.ensures.value) c.in_ok-within.ensures.value c.in_ok-inside.ensures.value
    (λ a. negated-value _ _ a c.negated.ensures) (λ a. negated-value _ _ a c.negated-2.ensures) (ap (λ (l : Lit). l.var) c.negated-3.ensures) (λ a. negated-value _ _ a c.negated-3.ensures)
