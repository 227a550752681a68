use Rattle.op_inliner.proofs.SpotLemmas.{prime_leads, single_is}
use Rattle.op_inliner.proofs.spots.step.Goals as goal

pub returns-in_ok-next-in-Prime-len1 : goal.returns-in_ok-next-in-Prime-len1
returns-in_ok-next-in-Prime-len1 c =
    prime_leads c.args.frames.now.items c.args.spot c.in_ok-next-in-Prime-len1.next c.operand-item.result c.as_slice.result.now c.in-Prime-len1.is-0 c.as_slice.ensures
    (single_is c.as_slice.result.now c.operand-item.result c.in-Prime-len1.len_at_least c.in-Prime-len1.len_below c.operand-item.is) c.requires.scope c.in_ok-next-in-Prime-len1.ensures
