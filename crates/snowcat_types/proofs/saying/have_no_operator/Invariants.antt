use Rattle.std.proofs.Common.{map, drop}
use Rattle.snowcat_rows.specs.Types.{mean, row}
use Rattle.snowcat_rows.specs.Operators.{HasNoOperator}
use Rattle.snowcat_types.proofs.saying.have_no_operator.Given as goal

abbrev pub invariant-loop-i : goal.invariant-loop-i
invariant-loop-i l = HasNoOperator (row (map mean (drop l.i l.ts))) → HasNoOperator (row (map mean l.ts))
