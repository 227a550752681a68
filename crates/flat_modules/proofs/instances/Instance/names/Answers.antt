use Rattle.std.proofs.Common.{arith, ap, take_all, ◌∙◌, ◌++◌}
use Rattle.tla_meaning.specs.Flattening.{instance_names}
use Rattle.flat_modules.specs.inner.Instances.{brought_names}
use Rattle.flat_modules.proofs.InstanceLemmas.{brought_all}
use Rattle.flat_modules.proofs.instances.Instance.names.Goals as goal

pub returns : goal.returns
returns c =
    let u = c.args.self.now in
    c.loop-entry.invariant
    ∙ ap (λ l. instance_names c.args.scope.now u.name.now u.local u.place ++ brought_names u.name.now u.local l) (take_all c.loop-entry.entry-index c.args.inside.now (omega arith))
    ∙ ap (λ l. instance_names c.args.scope.now u.name.now u.local u.place ++ l) (brought_all u.name.now u.local c.args.inside.now)
