use Rattle.std.proofs.Common.{refl, ap, false}
use Rattle.sat_formula.specs.declared.lit.Lit.{Lit}
use Rattle.cell_merge.proofs.Edges.{negated-value}
use Rattle.sequence_rewriter.proofs.Numbers.{index-named, is-index-of}
use Rattle.sequence_rewriter.proofs.places.index_of.Goals as goal

pub index_bits-requires-clause-x_below : goal.index_bits-requires-clause-x_below
index_bits-requires-clause-x_below c = index-named c.args.arena.now c.args.formula.now c.args.formula.now c.args.s c.args.i (record { bits = c.in_ok-low.low; first = 1; valid = record { var = 0; neg = false } }) _ _ c.in-Word.word c.in_ok-low.low.items (record { var = 0; neg = false })
    c.requires.over c.requires.types c.kind.ensures.same c.in-Word.is c.kind.ensures.held

pub returns-clause-index : goal.returns-clause-index
returns-clause-index c =
    is-index-of c.args.arena.now c.args.formula.now _ c.args.s c.args.i (record { bits = c.in_ok-bits.bits; first = 1; valid = c.negated.result }) _ _ c.in-Word.word c.in_ok-low.low.items _ c.requires.over c.requires.types c.kind.ensures.same c.in-Word.is c.kind.ensures.held
    c.in_ok-bits.ensures.grows refl (rw c.part_count.ensures at c.in_ok-low.ensures.value) (rw c.as_slice.ensures.value at c.in_ok-bits.ensures.front) (rw c.as_slice.ensures.value at c.in_ok-bits.ensures.beyond)
    (rw c.as_slice.ensures.value at c.in_ok-bits.ensures.value) (ap (λ (l : Lit). l.var) c.negated.ensures) (λ a. negated-value _ _ a c.negated.ensures)
