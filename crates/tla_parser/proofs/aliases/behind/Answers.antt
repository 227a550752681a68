use Rattle.std.proofs.lemmas.Option.{IfSome_then}
use Rattle.tla_parser.proofs.Notes.{behind_none, behind_some, none_then}
use Rattle.tla_parser.proofs.aliases.behind.Goals as goal

pub returns-clause-some : goal.returns-clause-some
returns-clause-some c = IfSome_then c.after.result c.after.ensures.some (λ x e. behind_some c.args.beginning.now c.args.bytes.now x.now e)

pub returns-clause-none : goal.returns-clause-none
returns-clause-none c = none_then c.after.result c.after.ensures.none (behind_none c.args.beginning.now c.args.bytes.now)
