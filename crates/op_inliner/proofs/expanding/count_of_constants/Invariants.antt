use Rattle.std.proofs.Common.{◌≡◌, ◌≤◌, filter, length, take}
use Rattle.op_inliner.proofs.expanding.count_of_constants.Given as goal

abbrev pub invariant-loop-decl : goal.invariant-loop-decl
invariant-loop-decl l = record {
  is : l.count ≡ length (filter (λ d. d.constant) (take l.decl-index l.decls));
  within : l.count ≤ l.decl-index;
}
