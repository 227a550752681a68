use Rattle.std.proofs.Common.{◌≡◌, take}
use Rattle.op_inliner.specs.Known.{with_params}
use Rattle.op_inliner.proofs.known.push_params.Given as goal

abbrev pub invariant-loop-name : goal.invariant-loop-name
invariant-loop-name l = l.scope.items ≡ with_params (take l.name-index l.params) l.fn.scope.items
