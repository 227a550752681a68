use Rattle.std.proofs.Common.{◌-◌, ◌≤◌, length}
use Rattle.tla_lexer.proofs.HeaderLemmas.{NoneBefore}
use Rattle.tla_lexer.proofs.header.module_start.Given as goal

abbrev pub invariant-loop-at : goal.invariant-loop-at
invariant-loop-at l = record { within : l.at ≤ length l.bytes; none : NoneBefore l.bytes l.at }

abbrev pub decreases-loop-at : goal.decreases-loop-at
decreases-loop-at l = length l.bytes - l.at
