use Rattle.std.proofs.Common.{◌∙◌, ◌∷◌, [], ap}
use Rattle.tla_meaning.specs.declared.op.Op.TheVariants as op
use Rattle.kernel_trees.specs.declared.kernel.KerOp.TheVariants as ker
use Rattle.kernel_reduction.specs.Rows.{node}
use Rattle.kera_reducer.specs.inner.Standing.{MakesOf}
use Rattle.kera_reducer.proofs.IfOks.{ok_by}
use Rattle.kera_reducer.proofs.RowsMade.{range_makes}
use Rattle.kera_reducer.proofs.operators.range.Goals as goal

pub returns : goal.returns
returns c =
    let m = c.args.made.now in
    let a = c.in_ok-ends.ends.0 in
    let b = c.in_ok-ends.ends.1 in
    ok_by _ (λ k. MakesOf m op.Range c.args.kids.items k) _ c.binary.ensures
    (λ k e. range_makes m a b c.args.kids.items k c.in_ok-ends.ensures
    (e ∙ ap (λ t. node m.place t ker.Range (a ∷ b ∷ [])) c.in_ok-ty.ensures))
