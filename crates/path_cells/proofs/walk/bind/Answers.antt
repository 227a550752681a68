use Rattle.std.proofs.Common.{◌∙◌, refl}
use Rattle.path_cells.proofs.Walks.{bound_all, bound_turn}
use Rattle.path_cells.proofs.walk.bind.Goals as goal

pub loop-i-preserved : goal.loop-i-preserved
loop-i-preserved c =
    rw c.in_ok-push.ensures.items
    (bound_turn c.loop-i.all.items c.args.bound c.args.ps.now c.args.ids.now c.loop-i.i c.index-ps-i.result _ _
    c.loop-i.invariant c.requires c.loop-i-test.true c.index-ps-i.is refl)

pub returns : goal.returns
returns c =
    c.from_vec.ensures ∙ bound_all c.loop-i.all.items c.args.bound c.args.ps.now c.args.ids.now c.loop-i.i c.loop-i.invariant c.requires c.loop-i-test.false
