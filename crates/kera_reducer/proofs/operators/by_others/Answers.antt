use Rattle.std.proofs.Common.{subst, sym}
use Rattle.kera_reducer.specs.inner.Standing.{MakesOf}
use Rattle.kera_reducer.proofs.IfOks.{ok_by}
use Rattle.kera_reducer.proofs.RowsMade.{assign_makes, noted_makes}
use Rattle.kera_reducer.proofs.operators.by_others.Goals as goal

pub returns-in-Assign : goal.returns-in-Assign
returns-in-Assign c =
    let m = c.args.made.now in
    subst (λ o. MakesOf m o c.args.kids.items c.node.result) (sym c.in-Assign.is)
    (assign_makes m c.args.kids.items c.node.result c.node.ensures)

pub returns-in-Noted : goal.returns-in-Noted
returns-in-Noted c =
    let m = c.args.made.now in
    ok_by _ (λ k. MakesOf m c.args.op.now c.args.kids.items k) _ c.only.ensures
    (λ k e. subst (λ o. MakesOf m o c.args.kids.items k) (sym c.in-Noted.is)
    (noted_makes m _ c.args.kids.items k e))
