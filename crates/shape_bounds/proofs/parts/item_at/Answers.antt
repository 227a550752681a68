use Rattle.std.proofs.Common.{length, pos, ◌<ℤ◌, ◌≤ℤ◌, map, nat_abs, ap, ◌∙◌, arith}
use Rattle.std.specs.Int.{w128}
use Rattle.std.proofs.lemmas.Int.{ints, to_z-of_z}
use Rattle.kernel_shapes.specs.Codes.{mean}
use Rattle.kernel_shapes.specs.Shape.{shapes}
use Rattle.shape_bounds.proofs.Places.{item_low, item_high, item_taken}
use Rattle.shape_bounds.proofs.parts.item_at.Goals as goal
use Rattle.shape_bounds.proofs.parts.item_at.Goals.{then-n-lt1-via-then-n-lt1, then-n-lt1-via-else-n-lt1+then-n-items}

pub returns-then-n-lt1 : goal.returns-then-n-lt1
returns-then-n-lt1 c = elim c.then-n-lt1.branch [
  | then-n-lt1-via-then-n-lt1 w ↦
      let h : c.args.n <ℤ pos 1 = grind (arith, ints) in item_low (shapes (map mean c.args.items.now)) c.args.n h
  | then-n-lt1-via-else-n-lt1+then-n-items w ↦
      let h : pos (length c.args.items.now) <ℤ c.args.n = grind (arith, ints) in item_high c.args.items.now c.args.n h
]

pub returns : goal.returns
returns c =
    let low : pos 1 ≤ℤ c.args.n = grind (arith, ints) in
    let high : c.args.n ≤ℤ pos (length c.args.items.now) = grind (arith, ints) in
    item_taken c.args.items.now c.args.n c.unsigned_abs.result c.index-items-unsigned_abs.result
    (c.unsigned_abs.ensures.value ∙ ap nat_abs (to_z-of_z w128 c.args.n c.ranges.n)) low high c.index-items-unsigned_abs.is
