use Rattle.trace_decoder.proofs.ReadWords.{AreRead}
use Rattle.trace_decoder.proofs.words.number.Given as goal

abbrev pub invariant-loop-l : goal.invariant-loop-l
invariant-loop-l l = AreRead l.word l.a l.l-index l.sum l.place l.negative
