use Rattle.tla_modules.proofs.Joins.{is_flat}
use Rattle.tla_modules.proofs.resolving.flat.Goals as goal

pub returns : goal.returns
returns c = is_flat c.args.modules.now c.args.root.now c.in_default.not-Some c.in_ok-misuse.ensures c.in_ok-flat.ensures c.in_ok-files.ensures c.module_name.ensures
