use Rattle.sequence_rewriter.proofs.Bits.{is-length}
use Rattle.sequence_rewriter.proofs.lengths.length_bits.Goals as goal

pub returns : goal.returns
returns c =
    is-length c.args.b.now c.args.s c.requires _ _ c.in-Seq.word _ c.in-Seq.places c.as_slice.result.now c.kind.ensures.same c.in-Seq.is c.as_slice.ensures c.kind.ensures.held
    c.in_ok-bits.ensures.below c.in_ok-bits.ensures.few c.in_ok-bits.ensures.value
