use Rattle.std.proofs.Common.{◌≡◌, ◌++◌, take}
use Rattle.snowcat_types.specs.inner.Named.{ScopeNamed}
use Rattle.snowcat_types.proofs.trees.bind.Given as goal

abbrev pub invariant-loop-name : goal.invariant-loop-name
invariant-loop-name l = record {
  bound : l.bound.items ≡ l.fn.bound.items ++ take l.name-index l.names;
  named : ScopeNamed l.fn.bound.items → ScopeNamed l.names → ScopeNamed l.bound.items;
}
