use Rattle.std.proofs.Common.{◌∙◌, ap}
use Rattle.snowcat_rows.specs.declared.types.Ty.TheVariants as ty
use Rattle.tla_meaning.specs.declared.op.Op.TheVariants as op
use Rattle.kernel_reduction.specs.Rows.{negation}
use Rattle.kera_reducer.specs.inner.Standing.{MakesOf}
use Rattle.kera_reducer.proofs.IfOks.{ok_by}
use Rattle.kera_reducer.proofs.RowsMade.{at_most_makes}
use Rattle.kera_reducer.proofs.operators.at_most.Goals as goal

pub returns : goal.returns
returns c =
    let m = c.args.made.now in
    ok_by _ (λ k. MakesOf m op.Le c.args.kids.items k) _ c.negation.ensures
    (λ k e. at_most_makes m c.in_ok-left.left c.in_ok-left.right c.args.kids.items k c.in_ok-left.ensures
    (e ∙ ap (negation m.place ty.Bool) c.in_ok-greater.ensures))
