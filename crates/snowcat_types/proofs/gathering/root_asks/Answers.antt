use Rattle.std.proofs.Common.{◌∙◌, subst, sym}
use Rattle.snowcat_rows.proofs.Naming.{differ-Bool}
use Rattle.snowcat_types.specs.inner.Gathered.{AllNamedIn}
use Rattle.snowcat_types.proofs.PartSteps.{truth_asked}
use Rattle.snowcat_types.proofs.gathering.root_asks.Goals as goal

pub returns-clause-asked : goal.returns-clause-asked
returns-clause-asked c =
    truth_asked c.args.root.sight.place c.args.root.of c.from_vec.result (c.from_vec.ensures ∙ c.in_ok-asked.ensures.items)

pub returns-clause-named : goal.returns-clause-named
returns-clause-named c = λ h. subst AllNamedIn (sym (c.from_vec.ensures ∙ c.in_ok-asked.ensures.items)) ((differ-Bool, h), tt)
