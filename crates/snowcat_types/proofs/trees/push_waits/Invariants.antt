use Rattle.std.proofs.Common.{◌≡◌, ◌++◌}
use Rattle.snowcat_types.specs.Systems.{all_wait}
use Rattle.snowcat_types.specs.inner.Gathered.{EntriesNamed, entries_of}
use Rattle.snowcat_types.proofs.trees.push_waits.Given as goal

abbrev pub invariant-loop-wait : goal.invariant-loop-wait
invariant-loop-wait l = record {
  added : entries_of l.entries.items ≡ entries_of l.fn.entries.items ++ all_wait l.yielded;
  named : EntriesNamed l.fn.entries.items → EntriesNamed l.entries.items;
}
