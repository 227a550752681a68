use Rattle.std.proofs.Common.{◌≡◌, drop}
use Rattle.std.specs.Prelude.{nat_eq}
use Rattle.kera_reducer.specs.inner.Wholes.{update_count, updates_count}
use Rattle.kera_reducer.proofs.wholes.has_updates.Given as goal

abbrev pub invariant-loop-count : goal.invariant-loop-count
invariant-loop-count l =
    nat_eq (update_count l.counts) l.children ≡ nat_eq (updates_count (drop l.count-index l.counts)) l.left
