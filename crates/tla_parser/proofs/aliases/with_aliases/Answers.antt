use Rattle.tla_parser.proofs.Notes.{scanned}
use Rattle.tla_parser.proofs.aliases.with_aliases.Goals as goal

pub loop-i-preserved : goal.loop-i-preserved
loop-i-preserved c = scanned c.loop-i.found c.in_ok-found.found c.args.found c.args.bytes.now c.loop-i.i c.loop-i-test.true c.loop-i.invariant c.in_ok-found.ensures
