use Rattle.std.proofs.Common.{◌∙◌, ap}
use Rattle.tla_meaning.specs.Symbols.{least_from, repeated}
use Rattle.flat_modules.proofs.LearningLemmas.{beside_told}
use Rattle.flat_modules.proofs.resolving.Resolving.tell_beside.Goals as goal

pub returns : goal.returns
returns c =
    beside_told c.args.before.now c.args.new.now
    (record { scope = c.tell_all.ensures.scope; told = c.tell_all.ensures.told ∙ ap (least_from c.args.self.now.told) c.in_ok-in_scope.ensures })
    c.tell_all-2.ensures.scope (c.tell_all-2.ensures.told ∙ ap (least_from c.tell_all.new.self.told) (c.in_ok-among_new.ensures ∙ ap (repeated c.args.before.now) c.get.ensures))
