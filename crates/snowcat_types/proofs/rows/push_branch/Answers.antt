use Rattle.snowcat_rows.specs.declared.types.Ty.TheVariants.{Bool}
use Rattle.snowcat_rows.proofs.Means.{mean-Bool}
use Rattle.snowcat_types.proofs.FormSteps.{two_more}
use Rattle.snowcat_types.proofs.rows.push_branch.Goals as goal

pub returns : goal.returns
returns c =
    two_more c.args.types.now.items c.push.new.self.items c.push-2.new.self.items Bool c.args.branch c.in_ok-push.ensures.items c.in_ok-push-2.ensures.items mean-Bool
