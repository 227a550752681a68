use Rattle.std.proofs.Common.{◌∙◌, ◌-◌, ap, sym}
use Rattle.std.specs.List.{list_any}
use Rattle.tla_meaning.specs.Flattening.{same_item}
use Rattle.flat_modules.specs.inner.Items.{item_of}
use Rattle.flat_modules.specs.inner.Places.{item_key, place_of}
use Rattle.flat_modules.proofs.ItemKeys.{same_item_key}
use Rattle.flat_modules.proofs.Places.{any_begins, any_found, any_next, read_as}
use Rattle.flat_modules.proofs.items.Items.is_there.Goals as goal

pub loop-place-init : goal.loop-place-init
loop-place-init c =
    let new = c.args.new.now in
    any_begins item_key (item_key new) (λ other. same_item (item_of new) (item_of other)) (same_item_key new) c.self.inside.items.items
    (c.last-place.ensures ∙ ap (λ k. place_of k c.self.inside.index) c.item_key.ensures) c.self.invariant

pub returns-then-same_item : goal.returns-then-same_item
returns-then-same_item c =
    let new = c.args.new.now in
    any_found item_key (item_key new) (λ other. same_item (item_of new) (item_of other)) (same_item_key new) c.self.inside.items.items c.loop-place.place c.get.result.now c.loop-place-test.true
    c.loop-place.invariant (read_as c.self.inside.items.items (c.loop-place.place - 1) c.get.ensures c.index.ensures) (sym c.if-same_item.ensures)
    ∙ ap (list_any (λ other. same_item (item_of new) (item_of other))) c.self.view_is

pub loop-place-smaller : goal.loop-place-smaller
loop-place-smaller c =
    let new = c.args.new.now in
    (any_next item_key (item_key new) (λ other. same_item (item_of new) (item_of other)) (same_item_key new) c.self.inside.items.items c.loop-place.place c.before-place.result c.get.result.now
    c.loop-place-test.true c.loop-place.invariant (read_as c.self.inside.items.items (c.loop-place.place - 1) c.get.ensures c.index.ensures) (sym c.if-same_item.ensures) c.before-place.ensures
    c.self.invariant).1

pub loop-place-preserved : goal.loop-place-preserved
loop-place-preserved c =
    let new = c.args.new.now in
    (any_next item_key (item_key new) (λ other. same_item (item_of new) (item_of other)) (same_item_key new) c.self.inside.items.items c.loop-place.place c.before-place.result c.get.result.now
    c.loop-place-test.true c.loop-place.invariant (read_as c.self.inside.items.items (c.loop-place.place - 1) c.get.ensures c.index.ensures) (sym c.if-same_item.ensures) c.before-place.ensures
    c.self.invariant).0
