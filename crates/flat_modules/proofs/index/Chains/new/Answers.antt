use Rattle.std.proofs.Common.{◌<◌, ◌∙◌, arith, get_or, length}
use Rattle.std.proofs.lemmas.List.{take_more}
use Rattle.flat_modules.proofs.Places.{key_more}
use Rattle.flat_modules.proofs.index.Chains.new.Goals as goal

pub loop-key-preserved : goal.loop-key-preserved
loop-key-preserved c =
    let chains = c.loop-key.chains in
    let key = get_or c.args.keys.now c.loop-key.key-index 0 in
    let some : 0 < length chains.heads.items = omega (arith, c.requires, c.loop-key.invariant.1) in
    let one = key_more _ chains.heads.items chains.links.items c.loop-key.invariant.0 key some (take_more c.args.keys.now c.loop-key.key-index 0 c.loop-key-test.true)
    c.in_ok-push.ensures.added.heads c.in_ok-push.ensures.added.links in
    (one.0, one.1 ∙ c.loop-key.invariant.1)
