use Rattle.std.proofs.lemmas.Bool.Decides.{Decides-eqb}
use Rattle.std.proofs.lemmas.Slice.Eq.{strip_prefix_is}
use Rattle.tla_parser.proofs.Notes.{cases_none, cases_some}
use Rattle.tla_parser.proofs.aliases.after.Goals as goal

pub returns-clause-some : goal.returns-clause-some
returns-clause-some c = cases_some c.strip_prefix.result _ _ (strip_prefix_is Decides-eqb c.args.bytes.now c.args.beginning.now c.strip_prefix.result c.strip_prefix.ensures.cases)

pub returns-clause-none : goal.returns-clause-none
returns-clause-none c = cases_none c.strip_prefix.result _ _ (strip_prefix_is Decides-eqb c.args.bytes.now c.args.beginning.now c.strip_prefix.result c.strip_prefix.ensures.cases)
