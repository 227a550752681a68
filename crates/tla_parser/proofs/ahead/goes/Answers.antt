use Rattle.tla_parser.proofs.ReadAhead.{goes_behind}
use Rattle.tla_parser.proofs.ahead.goes.Goals as goal

pub returns : goal.returns
returns c = goes_behind c.args.front.now c.args.ahead.now _ _ _ c.is_stuck.result c.in_ok-recognizer.ensures c.in_ok-between.ensures c.in_ok-behind.ensures c.is_stuck.ensures
