use Rattle.snowcat_rows.proofs.Rereading.{spelled_again}
use Rattle.snowcat_rows.proofs.showing.shown_types_are_spelled.Goals as goal

pub returns : goal.returns
returns c = spelled_again
