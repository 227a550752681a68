use Rattle.snowcat_rows.proofs.NumberedLaw.{numbered_there, numbered_again}
use Rattle.snowcat_rows.proofs.renumbering.renumbered_types_are_the_same.Goals as goal

pub returns-clause-there : goal.returns-clause-there
returns-clause-there c = numbered_there

pub returns-clause-back : goal.returns-clause-back
returns-clause-back c = numbered_again
