use Rattle.word_blaster.proofs.Words.{WordBelow-later}
use Rattle.sequence_rewriter.proofs.Numbers.{index-later}
use Rattle.sequence_rewriter.proofs.places.find_place.Goals as goal

pub outside-requires-clause-bits : goal.outside-requires-clause-bits
outside-requires-clause-bits c = WordBelow-later _ _ c.args.bits.now c.requires.bits c.in_ok-index.ensures.grows.vars

pub returns-clause-found : goal.returns-clause-found
returns-clause-found c = record {
  index = index-later _ _ _ _ _ _ c.in_ok-index.ensures.index c.in_ok-out.ensures.grows;
  out = c.in_ok-out.ensures.value;
}
