use Rattle.std.proofs.Common.{◌≡◌, filter, map, take}
use Rattle.tla_meaning.specs.Flattening.{is_definition, with_items}
use Rattle.flat_modules.specs.inner.Items.{item_of}
use Rattle.flat_modules.proofs.items.Items.add_definitions.Given as goal

abbrev pub invariant-loop-item : goal.invariant-loop-item
invariant-loop-item l = map item_of l.self ≡ with_items (map item_of l.initial.self) (filter is_definition (map item_of (take l.item-index l.item-items)))
