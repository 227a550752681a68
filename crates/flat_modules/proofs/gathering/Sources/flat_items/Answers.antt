use Rattle.std.proofs.Common.{◌∙◌}
use Rattle.flat_modules.proofs.FlatLemmas.{flat_split}
use Rattle.flat_modules.proofs.gathering.Sources.flat_items.Goals as goal

pub returns : goal.returns
returns c =
    flat_split c.split.result c.args.self.modules.now c.args.name.now c.deref.result.now _ c.split.ensures (c.in_ok-items.ensures)
    (c.deref.ensures.value ∙ c.in_ok-decls.ensures)
