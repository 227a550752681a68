use Rattle.flat_modules.proofs.Places.{seek_hit, seek_next}
use Rattle.flat_modules.proofs.index.Chains.seek.Goals as goal

pub returns-then-here-key : goal.returns-then-here-key
returns-then-here-key c =
    seek_hit c.args.keys.now c.args.self.now.heads.items c.args.self.now.links.items c.requires.chained c.args.from c.args.key c.loop-place.place c.loop-place-test.true c.loop-place.invariant
    c.if-here-key.true

pub loop-place-smaller : goal.loop-place-smaller
loop-place-smaller c =
    (seek_next c.args.keys.now c.args.self.now.heads.items c.args.self.now.links.items c.requires.chained c.args.from c.args.key c.loop-place.place c.index-place.result.now c.loop-place-test.true
    c.loop-place.invariant c.if-here-key.false c.index-place.ensures).1

pub loop-place-preserved : goal.loop-place-preserved
loop-place-preserved c =
    (seek_next c.args.keys.now c.args.self.now.heads.items c.args.self.now.links.items c.requires.chained c.args.from c.args.key c.loop-place.place c.index-place.result.now c.loop-place-test.true
    c.loop-place.invariant c.if-here-key.false c.index-place.ensures).0
