use Rattle.std.proofs.Common.{length}
use Rattle.snowcat_types.specs.inner.Gathered.{AllNamedIn, DeclaredNamed}
use Rattle.snowcat_types.proofs.PartSteps.{Declares}
use Rattle.snowcat_types.proofs.gathering.declared_names.Given as goal

abbrev pub invariant-loop-i : goal.invariant-loop-i
invariant-loop-i l = record {
  asked : Declares (length l.declared) l.i l.declared l.asked.items l.next;
  named : DeclaredNamed l.declared → AllNamedIn l.asked.items;
}
