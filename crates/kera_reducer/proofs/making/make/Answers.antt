use Rattle.std.proofs.Common.{subst, sym}
use Rattle.kera_reducer.specs.inner.Standing.{Makes}
use Rattle.kera_reducer.proofs.IfOks.{ok_by}
use Rattle.kera_reducer.proofs.ScopesMade.{value_makes}
use Rattle.kera_reducer.proofs.making.make.Goals as goal

pub returns-in-None : goal.returns-in-None
returns-in-None c =
    let m = c.args.made.now in
    ok_by _ (λ k. Makes m c.args.passed c.args.op.now c.args.kids.items k) _ c.as_value.ensures
    (λ k h. subst (λ j. Makes m j c.args.op.now c.args.kids.items k) (sym c.in-None.is)
    (value_makes m c.args.op.now c.args.kids.items k h))
