use Rattle.tla_meaning.specs.Symbols.{bound}
use Rattle.flat_modules.proofs.Walking.{declares_next}
use Rattle.flat_modules.proofs.resolving.Resolving.tell_bound.Goals as goal

pub loop-name-preserved : goal.loop-name-preserved
loop-name-preserved c =
    declares_next c.args.self.now.scope c.args.self.now.told (bound c.args.place) c.args.names.now c.loop-name.name-index c.name-item.result
    c.in_ok-entry.entry c.loop-name-test.true c.name-item.is c.in_ok-entry.ensures c.in_ok-declare.ensures c.loop-name.invariant
