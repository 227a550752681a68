use Rattle.std.proofs.Common.{map}
use Rattle.snowcat_types.specs.inner.Built.{context_of, operand_of}
use Rattle.snowcat_types.specs.inner.Gathered.{TypesNamed}
use Rattle.snowcat_types.specs.inner.Named.{GatheringNamed, OperandsNamed}
use Rattle.snowcat_types.specs.inner.Visiting.{Walked}
use Rattle.snowcat_types.proofs.TreeSteps.{left_of}
use Rattle.snowcat_types.proofs.trees.+trees.Given as goal

abbrev pub invariant-visit-loop-i : goal.invariant-visit-loop-i
invariant-visit-loop-i l = record {
  walked :
      Walked l.initial.whole l.whole l.children
      (left_of l.trees (map operand_of l.opened.operands) (context_of l.initial.whole.around) 0 l.initial.whole.next)
      (left_of l.trees (map operand_of l.opened.operands) (context_of l.initial.whole.around) l.i l.whole.next);
  named :
      GatheringNamed l.initial.whole → OperandsNamed l.opened.operands → GatheringNamed l.whole × TypesNamed l.children.types.items;
}
