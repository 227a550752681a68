use Rattle.snowcat_types.proofs.RowsMet.{typed_meets}
use Rattle.snowcat_types.proofs.theorems.typings_meet_rows.Goals as goal

pub returns : goal.returns
returns c = typed_meets
