use Rattle.std.proofs.Common.{◌≡◌, ◌++◌, drop}
use Rattle.trace_text.specs.Reports.{states_text}
use Rattle.trace_text.proofs.reports.states.Given as goal

abbrev pub invariant-loop-i : goal.invariant-loop-i
invariant-loop-i l = l.out.items ++ states_text l.names l.i (drop l.i l.trace.states) ≡ l.initial.out.items ++ states_text l.names 0 l.trace.states
