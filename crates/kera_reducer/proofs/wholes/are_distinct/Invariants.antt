use Rattle.std.proofs.Common.{◌≡◌, drop}
use Rattle.snowcat_rows.specs.TypeTexts.{are_distinct}
use Rattle.kera_reducer.proofs.wholes.are_distinct.Given as goal

abbrev pub invariant-loop-i : goal.invariant-loop-i
invariant-loop-i l = are_distinct l.texts ≡ are_distinct (drop l.i l.texts)
