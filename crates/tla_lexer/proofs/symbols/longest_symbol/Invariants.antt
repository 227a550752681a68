use Rattle.std.proofs.Common.{◌≤◌, length}
use Rattle.tla_lexer.specs.Symbols.{NoSymbolPast}
use Rattle.tla_lexer.proofs.symbols.longest_symbol.Given as goal

abbrev pub invariant-loop-length : goal.invariant-loop-length
invariant-loop-length l = record { within : l.length ≤ length l.bytes; none : NoSymbolPast l.bytes l.length }

abbrev pub decreases-loop-length : goal.decreases-loop-length
decreases-loop-length l = l.length
