use Rattle.tla_meaning.specs.Flattening.{root_copy}
use Rattle.flat_modules.proofs.gathering.Sources.items.Goals as goal

pub root-requires : goal.root-requires
root-requires c = c.new-memo.ensures c.args.self.modules.now (root_copy c.args.name.now c.args.decls.now)
