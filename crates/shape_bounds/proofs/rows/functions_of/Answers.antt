use Rattle.std.proofs.Common.{◌≡◌, ◌∙◌, ◌^◌, ap, arith, max}
use Rattle.kernel_shapes.specs.Codes.{mean}
use Rattle.kernel_shapes.specs.Shape.{Set}
use Rattle.shape_bounds.specs.Kept.{kept}
use Rattle.shape_bounds.proofs.Rowed.{functions_kept, ok_each}
use Rattle.shape_bounds.proofs.rows.functions_of.Goals as goal

pub returns : goal.returns
returns c =
    let e = c.max.ensures in
    let p = c.power.ensures in
    let n : c.max.result ≡ max 1 (kept (c.count.result ^ c.count-arguments.result)) = omega (arith, e, p) in
    ok_each _ (Set c.max.result (mean c.in_ok-member.member)) _
    (λ v.
    ap (Set c.max.result) c.in_ok-member.ensures
    ∙ functions_kept v c.max.result c.count.result c.count-arguments.result (mean c.args.a.now) (mean c.args.b.now)
    (mean c.in_ok-argument.argument) (mean c.in_ok-value.value) n c.count.ensures c.count-arguments.ensures
    (c.in_ok-argument.ensures ∙ c.inside.ensures) (c.in_ok-value.ensures ∙ c.inside-2.ensures))
    c.set.ensures
