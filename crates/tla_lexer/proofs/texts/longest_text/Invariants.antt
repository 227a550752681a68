use Rattle.std.proofs.Common.{◌-◌, length}
use Rattle.tla_lexer.proofs.TextLemmas.{InText}
use Rattle.tla_lexer.proofs.texts.longest_text.Given as goal

abbrev pub invariant-units : goal.invariant-units
invariant-units l = InText l.rest l.text.items l.at

abbrev pub decreases-units : goal.decreases-units
decreases-units l = length l.rest - l.at
