use Rattle.std.proofs.Common.{◌∙◌}
use Rattle.flat_modules.proofs.Behind.{aliases_all}
use Rattle.flat_modules.proofs.gathering.Sources.aliases.Goals as goal

pub returns : goal.returns
returns c =
    c.from_vec.ensures
    ∙ aliases_all c.args.self.modules.now c.args.root.now c.loop-name.name-index c.deref-name-items.result.now c.loop-name-test.false
    c.new-behind.ensures.names c.in_ok-add_behind.ensures.added c.deref-name-items.ensures.value c.loop-name.invariant
