use Rattle.tla_parser.proofs.Kept.{bad_at}
use Rattle.tla_parser.proofs.places.Places.bad.Goals as goal

pub returns : goal.returns
returns c = λ ts l e h. bad_at ts c.args.self.now c.args.end c.fault.result l e h c.fault.ensures
