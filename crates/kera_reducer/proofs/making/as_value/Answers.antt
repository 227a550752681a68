use Rattle.std.proofs.Common.{◌∙◌, sym}
use Rattle.kera_reducer.specs.inner.Standing.{MakesValue}
use Rattle.kera_reducer.proofs.IfOks.{ok_by}
use Rattle.kera_reducer.proofs.ScopesMade.{of_makes}
use Rattle.kera_reducer.proofs.making.as_value.Goals as goal

pub returns-else-binds_some : goal.returns-else-binds_some
returns-else-binds_some c =
    let m = c.args.made.now in
    ok_by _ (λ k. MakesValue m c.args.op.now c.args.kids.items k) _ c.value.ensures
    (λ k h. of_makes m c.args.op.now c.args.kids.items k (sym c.binds_some.ensures ∙ c.if-binds_some.false) h)
