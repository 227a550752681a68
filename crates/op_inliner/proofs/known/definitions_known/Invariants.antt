use Rattle.std.proofs.Common.{◌≡◌, drop}
use Rattle.op_inliner.specs.Known.{arities_of, definitions_known}
use Rattle.op_inliner.proofs.known.definitions_known.Given as goal

abbrev pub invariant-loop-def : goal.invariant-loop-def
invariant-loop-def l = record {
  left : definitions_known (drop l.def-index l.defs) l.scope.items ≡ definitions_known l.defs l.fn.scope.items;
  scope : arities_of (drop l.def-index l.defs) l.scope.items ≡ arities_of l.defs l.fn.scope.items;
}
