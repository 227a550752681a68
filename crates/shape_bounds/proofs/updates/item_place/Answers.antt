use Rattle.std.proofs.Common.{pos, ◌<ℤ◌, ◌≤ℤ◌, nat_abs, ap, ◌∙◌, arith}
use Rattle.std.specs.Int.{w128}
use Rattle.std.proofs.lemmas.Int.{ints, to_z-of_z}
use Rattle.shape_bounds.proofs.IndexJoins.{item_low, item_high, item_taken}
use Rattle.shape_bounds.proofs.updates.item_place.Goals as goal
use Rattle.shape_bounds.proofs.updates.item_place.Goals.{then-number-lt1-via-then-number-lt1, then-number-lt1-via-else-number-lt1+then-number-items}

pub returns-then-number-lt1 : goal.returns-then-number-lt1
returns-then-number-lt1 c = elim c.then-number-lt1.branch [
  | then-number-lt1-via-then-number-lt1 w ↦
      let h : c.args.number <ℤ pos 1 = grind (arith, ints) in item_low c.args.number c.args.items h
  | then-number-lt1-via-else-number-lt1+then-number-items w ↦
      let h : pos c.args.items <ℤ c.args.number = grind (arith, ints) in item_high c.args.number c.args.items h
]

pub returns : goal.returns
returns c =
    let low : pos 1 ≤ℤ c.args.number = grind (arith, ints) in
    item_taken c.args.number c.args.items c.unsigned_abs.result
    (c.unsigned_abs.ensures.value ∙ ap nat_abs (to_z-of_z w128 c.args.number c.ranges.number)) low
