use Rattle.std.proofs.Common.{map, drop}
use Rattle.snowcat_rows.specs.Types.{mean}
use Rattle.snowcat_rows.proofs.Differing.{Rest}
use Rattle.snowcat_rows.proofs.Fields.{Compared}
use Rattle.snowcat_rows.proofs.differences.+difference.Given as goal

abbrev pub invariant-difference_all-loop-i : goal.invariant-difference_all-loop-i
invariant-difference_all-loop-i l = Rest (map mean l.xs) (map mean l.ys) (map mean (drop l.i l.xs)) (map mean (drop l.i l.ys))

abbrev pub invariant-difference_fields-loop-f : goal.invariant-difference_fields-loop-f
invariant-difference_fields-loop-f l = Compared l.fs l.gs (drop l.f-index l.fs)
