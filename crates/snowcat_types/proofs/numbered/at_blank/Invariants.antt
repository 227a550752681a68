use Rattle.std.proofs.Common.{take}
use Rattle.snowcat_types.specs.inner.Telling.{IsUnbroken}
use Rattle.snowcat_types.proofs.numbered.at_blank.Given as goal

abbrev pub invariant-loop-i : goal.invariant-loop-i
invariant-loop-i l = IsUnbroken (take l.i l.text)
