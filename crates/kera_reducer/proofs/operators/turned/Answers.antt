use Rattle.tla_meaning.specs.declared.op.Op.TheVariants as op
use Rattle.kera_reducer.specs.inner.Standing.{MakesOf}
use Rattle.kera_reducer.proofs.IfOks.{ok_by}
use Rattle.kera_reducer.proofs.RowsMade.{greater_makes}
use Rattle.kera_reducer.proofs.operators.turned.Goals as goal

pub returns : goal.returns
returns c =
    let m = c.args.made.now in
    ok_by _ (λ k. MakesOf m op.Gt c.args.kids.items k) _ c.binary.ensures
    (λ k e. greater_makes m c.in_ok-left.left c.in_ok-left.right c.args.kids.items k c.in_ok-left.ensures e)
