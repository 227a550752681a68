use Rattle.std.proofs.Common.{[], refl}
use Rattle.tla_meaning.specs.Flattening.{root_copy}
use Rattle.flat_modules.proofs.KnowingLemmas.{misuse_step}
use Rattle.flat_modules.proofs.gathering.Sources.misuse.Goals as goal

pub loop-name-preserved : goal.loop-name-preserved
loop-name-preserved c = (
  misuse_step c.args.self.modules.now c.args.self.modules.now c.loop-name.name-index c.loop-name-item.result c.loop-name-test.true c.loop-name-item.is
      c.bytes.ensures c.loop-name.invariant.0 c.in_ok-known.ensures.known,
  c.in_ok-known.ensures.kept,
)

pub root-requires : goal.root-requires
root-requires c = c.loop-name.invariant.1

pub loop-name-init : goal.loop-name-init
loop-name-init c = (refl, c.new-memo.ensures c.args.self.modules.now (root_copy [] []))
