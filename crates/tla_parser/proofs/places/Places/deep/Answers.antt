use Rattle.tla_parser.proofs.Kept.{deep_at}
use Rattle.tla_parser.proofs.places.Places.deep.Goals as goal

pub returns : goal.returns
returns c = λ ts l e h. deep_at ts c.args.self.now c.args.end c.fault.result l e h c.fault.ensures
