use Rattle.std.proofs.Common.{[], take}
use Rattle.tla_parser.specs.declared.open.Mode.TheVariants.{Read}
use Rattle.tla_parser.specs.inner.Refusals.{IsReading}
use Rattle.tla_parser.proofs.parsing.read_all.Given as goal

abbrev pub invariant-loop-token : goal.invariant-loop-token
invariant-loop-token l = IsReading [] Read l.fn.reading → IsReading (take l.token-index l.tokens) l.mode l.reading
