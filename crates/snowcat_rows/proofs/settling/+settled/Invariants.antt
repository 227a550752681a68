use Rattle.std.proofs.Common.{map, drop}
use Rattle.snowcat_rows.specs.Types.{mean, row}
use Rattle.snowcat_rows.specs.Chains.{type_var}
use Rattle.snowcat_rows.specs.Codes.{bindings_of}
use Rattle.snowcat_rows.specs.inner.Settling.{AllFree, EndFree, IsFree}
use Rattle.snowcat_rows.proofs.Throughouts.{Left}
use Rattle.snowcat_rows.proofs.settling.+settled.Given as goal

abbrev pub invariant-are_settled-loop-i : goal.invariant-are_settled-loop-i
invariant-are_settled-loop-i l = AllFree (bindings_of l.bindings) (row (map mean (drop l.i l.ts))) → AllFree (bindings_of l.bindings) (row (map mean l.ts))

abbrev pub invariant-fields_settled-loop-f : goal.invariant-fields_settled-loop-f
invariant-fields_settled-loop-f l =
    Left (λ v. IsFree (type_var v) (bindings_of l.bindings)) (λ h. Unit {0}) (EndFree (bindings_of l.bindings)) l.fs (drop l.f-index l.fs)
