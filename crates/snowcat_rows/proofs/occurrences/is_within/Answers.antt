use Rattle.snowcat_rows.specs.Types.{mean}
use Rattle.snowcat_rows.proofs.Belows.{by_parts}
use Rattle.snowcat_rows.proofs.occurrences.is_within.Goals as goal

pub returns : goal.returns
returns c = by_parts c.args.limit (mean c.args.t.now) c.is_below.result c.is_below.ensures
