use Rattle.std.proofs.Common.{refl, arith}
use Rattle.cell_arena.proofs.Growing.{Grows-trans, Grows-formula}
use Rattle.sat_formula.proofs.Extension.{Satisfies-older}
use Rattle.sequence_rewriter.proofs.Bits.{one-more-within, one-more, makes-one-more}
use Rattle.sequence_rewriter.proofs.ends.make_longer.Goals as goal

pub add_bit-requires-clause-most : goal.add_bit-requires-clause-most
add_bit-requires-clause-most c = λ a s.
    rw c.as_slice-most.ensures.value (one-more-within _ _ _ (c.requires.within a s))

pub make_sequence-requires-clause-within : goal.make_sequence-requires-clause-within
make_sequence-requires-clause-within c = λ a s.
    let s0 = Satisfies-older _ _ a c.in_ok-more.ensures.grows s in
    let m = one-more _ c.args.bits.now c.in_ok-more.more.items _ (λ a s. c.top-one.ensures.forced a (Satisfies-older _ _ a c.in_ok-more.ensures.grows s)) c.in_ok-more.ensures.value a s in
    let w = c.requires.within a s0 in
    rw c.as_slice.ensures.value (omega arith)

pub returns-in_err-id-clause-grows : goal.returns-in_err-id-clause-grows
returns-in_err-id-clause-grows c = Grows-trans _ _ _ (Grows-formula _ _ c.in_ok-more.ensures.grows refl) c.in_err-id.ensures.grows

pub returns-clause-grows : goal.returns-clause-grows
returns-clause-grows c = Grows-trans _ _ _ (Grows-formula _ _ c.in_ok-more.ensures.grows refl) c.in_ok-id.ensures.grows

pub returns-clause-made : goal.returns-clause-made
returns-clause-made c =
    makes-one-more c.args.b.now _ _ c.args.bits.now c.in_ok-more.more.items _ _ refl c.in_ok-id.ensures.grows
    (one-more _ c.args.bits.now c.in_ok-more.more.items _ (λ a s. c.top-one.ensures.forced a (Satisfies-older _ _ a c.in_ok-more.ensures.grows s)) c.in_ok-more.ensures.value)
    (rw c.as_slice.ensures.value at c.in_ok-id.ensures.made)
