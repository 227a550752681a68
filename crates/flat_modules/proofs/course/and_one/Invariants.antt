use Rattle.std.proofs.Common.{◌≡◌, take}
use Rattle.flat_modules.proofs.course.and_one.Given as goal

abbrev pub invariant-loop-other : goal.invariant-loop-other
invariant-loop-other l = l.more.items ≡ take l.other-index l.names
