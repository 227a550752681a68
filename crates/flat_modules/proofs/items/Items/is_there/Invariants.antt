use Rattle.std.specs.List.{list_any}
use Rattle.tla_meaning.specs.Flattening.{same_item}
use Rattle.flat_modules.specs.inner.Items.{item_of}
use Rattle.flat_modules.specs.inner.Places.{item_key}
use Rattle.flat_modules.proofs.Places.{IsAt}
use Rattle.flat_modules.proofs.items.Items.is_there.Given as goal

abbrev pub invariant-loop-place : goal.invariant-loop-place
invariant-loop-place l =
    IsAt item_key (list_any (λ other. same_item (item_of l.new) (item_of other))) (list_any (λ other. same_item (item_of l.new) (item_of other)) l.self-inside.items.items) (item_key l.new)
    l.self-inside.items.items l.place

abbrev pub decreases-loop-place : goal.decreases-loop-place
decreases-loop-place l = l.place
