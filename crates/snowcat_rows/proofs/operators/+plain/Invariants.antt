use Rattle.std.proofs.Common.{map, drop}
use Rattle.snowcat_rows.specs.Types.{mean, row}
use Rattle.snowcat_rows.specs.Operators.{HasNoOperator, IsNoOperator}
use Rattle.snowcat_rows.proofs.Throughouts.{Left}
use Rattle.snowcat_rows.proofs.operators.+plain.Given as goal

abbrev pub invariant-have_no_operator-loop-i : goal.invariant-have_no_operator-loop-i
invariant-have_no_operator-loop-i l = HasNoOperator (row (map mean (drop l.i l.ts))) → HasNoOperator (row (map mean l.ts))

abbrev pub invariant-fields_have_no_operator-loop-f : goal.invariant-fields_have_no_operator-loop-f
invariant-fields_have_no_operator-loop-f l = Left (λ v. Unit {0}) IsNoOperator (λ k. Unit {0}) l.fs (drop l.f-index l.fs)
