use Rattle.std.proofs.Common.{IfSome, subst}
use Rattle.kera_reducer.specs.inner.Standing.{IsSame, MakesOf}
use Rattle.kera_reducer.proofs.IfOks.{ok_by}
use Rattle.kera_reducer.proofs.RowsMade.{same_makes}
use Rattle.kera_reducer.proofs.making.value.Goals as goal

pub returns-in-Some : goal.returns-in-Some
returns-in-Some c =
    let m = c.args.made.now in
    let o = c.args.op.now in
    let same = subst (λ ks. IsSame m o ks c.in-Some.same) c.as_slice.ensures.value
    (subst (λ z. IfSome z (λ ko. IsSame m o c.as_slice.result.now ko)) c.in-Some.is c.in_ok-same.ensures) in
    ok_by _ (λ k. MakesOf m o c.args.kids.items k) _ c.whole.ensures
    (λ k e. same_makes m o c.args.kids.items c.in-Some.same k same e)
