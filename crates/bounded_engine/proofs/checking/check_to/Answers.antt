use Rattle.std.proofs.Common.{refl}
use Rattle.bounded_engine.proofs.Ready.{ready, with_types}
use Rattle.bounded_engine.proofs.checking.check_to.Goals as goal

pub check_levels-requires-clause-ready : goal.check_levels-requires-clause-ready
check_levels-requires-clause-ready c = ready c.args.a.now _ c.requires.accepted c.requires.ready refl refl refl

pub returns : goal.returns
returns c = with_types c.args.a.now c.requires.accepted c.args.conflicts c.in_ok-checked.checked c.in_ok-checked.ensures
