use Rattle.std.proofs.Common.{◌≡◌, take, false}
use Rattle.op_inliner.specs.NamesBack.{among}
use Rattle.op_inliner.proofs.naming.is_among.Given as goal

abbrev pub invariant-loop-other : goal.invariant-loop-other
invariant-loop-other l = among l.name (take l.other-index l.names) ≡ false
