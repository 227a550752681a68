use Rattle.std.proofs.Common.{◌≡◌, ◌*◌, ◌^◌, ◌∙◌, ap, arith}
use Rattle.shape_bounds.specs.Kept.{kept}
use Rattle.shape_bounds.proofs.Sums.{kept_more}
use Rattle.shape_bounds.proofs.numbers.power_step_by_step.Goals as goal

pub loop-preserved : goal.loop-preserved
loop-preserved c = c.product-made.ensures ∙ ap (λ m. kept (m * c.args.base)) c.loop.invariant ∙ kept_more c.args.base c.loop.counter

pub returns : goal.returns
returns c = let e : c.loop.counter ≡ c.args.exponent = omega arith in c.loop.invariant ∙ ap (λ n. kept (c.args.base ^ n)) e
