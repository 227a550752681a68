use Rattle.std.proofs.Common.{◌≡◌, ◌∙◌, ◌-◌, ◌*◌, suc, sym, ap, map, drop, arith}
use Rattle.kernel_shapes.specs.Codes.{mean}
use Rattle.kernel_shapes.specs.Rows.{product_of}
use Rattle.shape_bounds.specs.Kept.{kept}
use Rattle.shape_bounds.proofs.Fielded.{product_more, nothing_left}
use Rattle.shape_bounds.proofs.records.product_of.Goals as goal

pub loop-i-init : goal.loop-i-init
loop-i-init c = sym (ap (λ as'. kept (product_of as')) (nothing_left mean c.args.sets.now))

pub loop-i-preserved : goal.loop-i-preserved
loop-i-preserved c =
    let one : c.loop-i.i ≡ suc (c.loop-i.i - 1) = omega arith in
    c.product-number.ensures
    ∙ ap (λ n. kept (n * c.loop-i.number)) c.count.ensures
    ∙ product_more c.args.sets.now (c.loop-i.i - 1) c.loop-i.number c.index-sets-i.result (omega arith) c.index-sets-i.is
    (c.loop-i.invariant ∙ ap (λ n. kept (product_of (drop n (map mean c.args.sets.now)))) one)

pub returns : goal.returns
returns c = let none : c.loop-i.i ≡ 0 = omega arith in c.loop-i.invariant ∙ ap (λ n. kept (product_of (drop n (map mean c.args.sets.now)))) none
