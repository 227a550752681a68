use Rattle.accepted_systems.proofs.Laws.{accepted_check}
use Rattle.accepted_systems.proofs.theorems.accepted_systems_can_be_checked.Goals as goal

pub returns : goal.returns
returns c = accepted_check
