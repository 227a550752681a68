use Rattle.snowcat_rows.proofs.LastOf.{no_last}
use Rattle.snowcat_rows.proofs.literals.literal_type.Goals as goal

pub returns-in-None : goal.returns-in-None
returns-in-None c = no_last c.args.text.now c.in-None.ensures.place
