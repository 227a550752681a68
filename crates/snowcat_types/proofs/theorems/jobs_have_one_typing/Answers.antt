use Rattle.snowcat_types.proofs.OneTyping.{one_typing}
use Rattle.snowcat_types.proofs.theorems.jobs_have_one_typing.Goals as goal

pub returns : goal.returns
returns c = one_typing
