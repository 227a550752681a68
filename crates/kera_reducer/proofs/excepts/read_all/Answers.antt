use Rattle.std.proofs.Common.{◌∙◌, ap, ◌++◌, ◌+◌, drop, eqb, length, refl, take}
use Rattle.kera_reducer.specs.inner.Excepts.{reads}
use Rattle.kera_reducer.proofs.ExceptSteps.{reads_more}
use Rattle.kera_reducer.proofs.excepts.read_all.Goals as goal

pub loop-i-preserved : goal.loop-i-preserved
loop-i-preserved c =
    ap (λ ks. ks ++ reads c.args.pairs.now.number c.args.pairs.now.ty (take (c.loop-i.i + 1) c.args.rests.now)
    (drop (c.loop-i.i + 1) c.args.rests.now) (drop (c.loop-i.i + 1) c.args.indexes.now)) c.in_ok-push.ensures.items
    ∙ reads_more c.args.pairs.now.number c.args.pairs.now.ty c.args.rests.now c.args.indexes.now c.loop-i.read.items c.loop-i.i
    c.index-indexes-i.result c.in_ok-tree.tree (eqb (c.loop-i.i + 1) (length c.args.indexes.now)) c.requires
    c.loop-i-test.true c.index-indexes-i.is refl c.in_ok-tree.ensures c.loop-i.invariant
