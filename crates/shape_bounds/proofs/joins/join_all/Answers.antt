use Rattle.std.proofs.Common.{◌≡◌, ◌∙◌, ◌-◌, suc, sym, ap, map, drop, arith}
use Rattle.kernel_shapes.specs.Codes.{mean}
use Rattle.kernel_shapes.specs.Shape.{join, join_all}
use Rattle.shape_bounds.proofs.Fielded.{join_all_more, nothing_left}
use Rattle.shape_bounds.proofs.Means.{mean-Empty}
use Rattle.shape_bounds.proofs.joins.join_all.Goals as goal

pub loop-i-init : goal.loop-i-init
loop-i-init c = mean-Empty ∙ sym (ap join_all (nothing_left mean c.args.shapes.now))

pub loop-i-preserved : goal.loop-i-preserved
loop-i-preserved c =
    let one : c.loop-i.i ≡ suc (c.loop-i.i - 1) = omega arith in
    c.in_ok-whole.ensures
    ∙ ap (join (mean c.index-shapes-i.result)) (c.loop-i.invariant ∙ ap (λ n. join_all (drop n (map mean c.args.shapes.now))) one)
    ∙ join_all_more c.args.shapes.now (c.loop-i.i - 1) c.index-shapes-i.result (omega arith) c.index-shapes-i.is
