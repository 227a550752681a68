use Rattle.sat_formula.proofs.Extension.{Grows-trans}
use Rattle.member_choices.proofs.Testing.{guards-push}
use Rattle.member_choices.proofs.literals.guarded.Goals as goal

pub loop-i-preserved : goal.loop-i-preserved
loop-i-preserved c =
    let i = c.loop-i.invariant in
    let r = c.in_ok-both.ensures in
    record {
      grows = Grows-trans _ _ _ i.grows r.grows;
      guards = guards-push _ _ c.args.cs.now c.args.lits.now _ _ c.loop-i.i _ _ _ c.loop-i-test.true r.grows i.guards
          r.value c.in_ok-push.ensures.items;
    }
