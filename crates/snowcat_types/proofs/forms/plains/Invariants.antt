use Rattle.std.proofs.Common.{◌≡◌, map}
use Rattle.snowcat_types.specs.Rows.{plain}
use Rattle.snowcat_types.specs.inner.Built.{means, operand_of}
use Rattle.snowcat_types.specs.inner.Gathered.{TypesNamed}
use Rattle.snowcat_types.specs.inner.Named.{OperandsNamed}
use Rattle.snowcat_types.proofs.forms.plains.Given as goal

abbrev pub invariant-loop-of : goal.invariant-loop-of
invariant-loop-of l = record {
  same : map operand_of l.operands.items ≡ map plain (means l.yielded);
  named : TypesNamed l.yielded → OperandsNamed l.operands.items;
}
