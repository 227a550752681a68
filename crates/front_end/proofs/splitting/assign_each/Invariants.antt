use Rattle.std.proofs.Common.{take}
use Rattle.front_end.specs.Accepted.{AreAssigned}
use Rattle.front_end.proofs.splitting.assign_each.Given as goal

abbrev pub invariant-loop-path : goal.invariant-loop-path
invariant-loop-path l = AreAssigned l.kind l.names (take l.path-index l.given) l.found.items
