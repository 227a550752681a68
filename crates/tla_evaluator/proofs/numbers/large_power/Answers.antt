use Rattle.std.proofs.Common.{◌≡◌, ◌∙◌, ◌*ℤ◌, ap, sym, Some, to_z, of_z}
use Rattle.tla_evaluator.proofs.Words.{in_width}
use Rattle.std.proofs.lemmas.Int.{to_z-of_z}
use mir.Syntax.{w128}
use Rattle.tla_evaluator.proofs.NumberLemmas.{power_big, power_more, saturated, unsaturated}
use Rattle.tla_evaluator.proofs.numbers.large_power.Goals as goal
use Rattle.tla_evaluator.proofs.numbers.large_power.Goals.{After-fits}

-- the next power is in the width where the number that is nearest to it is
same_width : (c : After-fits) → c.fits.result ≡ in_width (Some c.args.width) (to_z w128 (of_z w128 c.args.a) *ℤ to_z w128 c.loop-k.power-bits)
same_width c =
    c.fits.ensures
    ∙ ap (in_width (Some c.args.width)) (to_z-of_z w128 c.saturating_mul-power.result (record { sfits = c.saturating_mul-power.type_inv }) ∙ c.saturating_mul-power.ensures)
    ∙ saturated c.args.width c.requires.sized.narrow _

pub returns-then-not-fits : goal.returns-then-not-fits
returns-then-not-fits c =
    power_big _ _ _ _ _ _ _ (to_z-of_z w128 c.args.a c.ranges.a) c.requires.base c.loop-k.invariant c.loop-k-test.true (sym (same_width c.before) ∙ c.if-not-fits.true)

pub loop-k-preserved : goal.loop-k-preserved
loop-k-preserved c =
    let fits = sym (same_width c.before) ∙ c.if-not-fits.false in
    power_more _ _ _ _ _ c.requires.sized.narrow c.loop-k.invariant (c.saturating_mul-power.ensures ∙ unsaturated c.args.width c.requires.sized.narrow _ fits) fits
