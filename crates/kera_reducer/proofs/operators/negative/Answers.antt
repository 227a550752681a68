use Rattle.std.proofs.Common.{◌∙◌, ◌∷◌, [], ap}
use Rattle.snowcat_rows.specs.declared.types.Ty.TheVariants as ty
use Rattle.tla_meaning.specs.declared.op.Op.TheVariants as op
use Rattle.kernel_trees.specs.declared.kernel.KerOp.TheVariants as ker
use Rattle.kernel_reduction.specs.Rows.{node}
use Rattle.kera_reducer.specs.inner.Standing.{MakesOf}
use Rattle.kera_reducer.proofs.IfOks.{ok_by}
use Rattle.kera_reducer.proofs.RowsMade.{negative_makes}
use Rattle.kera_reducer.proofs.operators.negative.Goals as goal

pub returns : goal.returns
returns c =
    let m = c.args.made.now in
    ok_by _ (λ k. MakesOf m op.Neg c.args.kids.items k) _ c.binary.ensures
    (λ k e. negative_makes m c.in_ok-operand.operand c.args.kids.items k c.in_ok-operand.ensures
    (e ∙ ap (λ z. node m.place ty.Int ker.Minus (z ∷ c.in_ok-operand.operand ∷ [])) c.number-zero.ensures))
