use Rattle.std.proofs.Common.{take}
use Rattle.snowcat_types.specs.inner.Gathered.{requirements_of}
use Rattle.snowcat_types.specs.inner.Solved.{IsFurther}
use Rattle.snowcat_types.proofs.Asked.{IsReached}
use Rattle.snowcat_types.proofs.asking.ask_each.Given as goal

abbrev pub invariant-loop-next : goal.invariant-loop-next
invariant-loop-next l = record {
  kept : IsFurther l.fn.subst l.subst;
  reached : IsReached (requirements_of l.asked) (requirements_of (take l.next-index l.asked)) l.fn.subst l.subst;
}
