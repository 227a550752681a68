use Rattle.kera_reducer.proofs.IfOks.{ok_by}
use Rattle.kera_reducer.proofs.ScopesMade.{fold_makes}
use Rattle.kera_reducer.proofs.scoping.fold.Goals as goal

pub returns : goal.returns
returns c =
    ok_by _ _ _ c.binding.ensures
    (λ k e. fold_makes c.args.made.now c.args.kids.items c.in_ok-numbers.numbers.items k c.in_ok-numbers.ensures e)
