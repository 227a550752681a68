use Rattle.std.proofs.Common.{◌≡◌, ◌++◌, take}
use Rattle.tla_meaning.specs.Flattening.{instance_names}
use Rattle.flat_modules.specs.inner.Instances.{brought_names}
use Rattle.flat_modules.proofs.instances.Instance.names.Given as goal

abbrev pub invariant-loop-entry : goal.invariant-loop-entry
invariant-loop-entry l =
    l.names.items ≡ instance_names l.scope l.self.name.now l.self.local l.self.place ++ brought_names l.self.name.now l.self.local (take l.entry-index l.inside)
