use Rattle.std.proofs.Common.{◌∙◌, ap}
use Rattle.snowcat_rows.specs.declared.types.Ty.TheVariants as ty
use Rattle.kernel_reduction.specs.Rows.{negation}
use Rattle.kera_reducer.proofs.IfOks.{ok_by}
use Rattle.kera_reducer.proofs.RowsMade.{negated_makes}
use Rattle.kera_reducer.proofs.operators.negated.Goals as goal

pub returns : goal.returns
returns c =
    ok_by _ _ _ c.negation.ensures
    (λ k e. negated_makes c.args.made.now c.args.op.now c.args.relation c.args.kids.items k c.requires.row
    (e ∙ ap (negation c.args.made.now.place ty.Bool) c.node-holds.ensures))
