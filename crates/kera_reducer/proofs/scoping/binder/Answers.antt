use Rattle.kera_reducer.proofs.IfOks.{ok_by}
use Rattle.kera_reducer.proofs.ScopesMade.{binder_makes}
use Rattle.kera_reducer.proofs.scoping.binder.Goals as goal

pub returns : goal.returns
returns c =
    ok_by _ _ _ c.binding.ensures
    (λ k e. binder_makes c.args.made.now c.args.op.now c.args.stands c.args.kids.items c.in_ok-numbers.numbers.items k
    c.requires.row c.in_ok-numbers.ensures e)
