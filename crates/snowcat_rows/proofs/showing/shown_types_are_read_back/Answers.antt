use Rattle.snowcat_rows.proofs.Rereading.{read_again}
use Rattle.snowcat_rows.proofs.showing.shown_types_are_read_back.Goals as goal

pub returns : goal.returns
returns c = read_again
