use Rattle.snowcat_types.proofs.Clashes.{clash_excludes}
use Rattle.snowcat_types.proofs.theorems.clashes_have_no_typing.Goals as goal

pub returns : goal.returns
returns c = clash_excludes
