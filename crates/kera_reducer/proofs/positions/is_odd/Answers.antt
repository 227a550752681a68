use Rattle.kera_reducer.proofs.ChildNumbers.{odd_is}
use Rattle.kera_reducer.proofs.positions.is_odd.Goals as goal

pub returns : goal.returns
returns c = odd_is c.args.number
