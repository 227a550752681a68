use Rattle.std.proofs.Common.{arith, ◌≡◌, ◌≤◌, ◌∙◌}
use Rattle.std.proofs.lemmas.Grind.{common_steps}
use Rattle.snowcat_rows.specs.declared.types.Ty.TheVariants as ty
use Rattle.kernel_reduction.specs.Rows.{power_body}
use Rattle.kera_reducer.proofs.IfOks.{ok_by}
use Rattle.kera_reducer.proofs.RowsMade.{more_than_once}
use Rattle.kera_reducer.proofs.powers.power_body.Goals as goal

pub returns-in_default : goal.returns-in_default
returns-in_default c =
    let m = c.args.made.now in
    let h : 2 ≤ c.args.exponent = grind (arith, common_steps) in
    ok_by _ (λ k. k ≡ power_body m.place m.ty.now ty.Bool c.args.base.now c.args.exponent) _ c.product.ensures
    (λ k e. e ∙ more_than_once m.place m.ty.now ty.Bool c.args.base.now c.args.exponent h)
