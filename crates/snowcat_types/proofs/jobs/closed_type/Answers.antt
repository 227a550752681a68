use Rattle.std.proofs.Common.{◌∙◌, ap}
use Rattle.snowcat_rows.specs.Closing.{closing}
use Rattle.snowcat_rows.specs.Substitutions.{apply}
use Rattle.snowcat_rows.specs.Types.{mean}
use Rattle.snowcat_rows.specs.Views.{settled_by}
use Rattle.snowcat_rows.proofs.RowTheory.{apply_apply}
use Rattle.snowcat_types.proofs.jobs.closed_type.Goals as goal

pub returns-clause-mean : goal.returns-clause-mean
returns-clause-mean c =
    c.in_ok-whole.ensures.mean ∙ ap (apply closing) c.in_ok-solved.ensures.mean
    ∙ apply_apply closing (settled_by c.args.settled.now) (mean c.args.t.now)
