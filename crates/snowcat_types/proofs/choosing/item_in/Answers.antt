use Rattle.std.proofs.Common.{length, pos, ◌<ℤ◌, ◌≤ℤ◌}
use Rattle.std.specs.Int.{w128}
use Rattle.std.proofs.lemmas.Int.{ints, to_z-of_z}
use Rattle.snowcat_types.specs.inner.Built.{means}
use Rattle.snowcat_types.proofs.Picked.{high_nowhere, item_taken, low_nowhere}
use Rattle.snowcat_types.proofs.choosing.item_in.Goals as goal
use Rattle.std.proofs.Common.{arith}

pub returns-then-place-lt1 : goal.returns-then-place-lt1
returns-then-place-lt1 c =
    let h : c.args.place <ℤ pos 1 = grind (arith, ints) in
    low_nowhere (means c.args.items.now) c.args.place h

pub returns-then-place-items : goal.returns-then-place-items
returns-then-place-items c =
    let h : pos (length c.args.items.now) <ℤ c.args.place = grind (arith, ints) in
    high_nowhere c.args.items.now c.args.place h

pub returns : goal.returns
returns c =
    let low : pos 1 ≤ℤ c.args.place = grind (arith, ints) in
    let high : c.args.place ≤ℤ pos (length c.args.items.now) = grind (arith, ints) in
    item_taken c.args.items.now c.args.place _ c.index-items-number.result c.in_ok-of.of (to_z-of_z w128 c.args.place c.ranges.place) low high c.index-items-number.is c.in_ok-of.ensures c.requires
