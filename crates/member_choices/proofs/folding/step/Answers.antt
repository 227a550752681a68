use Rattle.std.proofs.Common.{refl}
use Rattle.cell_arena.proofs.Growing.{Grows-formula, Grows-trans}
use Rattle.member_choices.proofs.FoldSteps.{steps}
use Rattle.member_choices.proofs.folding.step.Goals as goal

pub returns-in_err-faults-clause-grows : goal.returns-in_err-faults-clause-grows
returns-in_err-faults-clause-grows c = Grows-trans _ _ _ c.in_ok-cell.ensures.grows
    (Grows-formula _ _ c.in_err-faults.ensures.grows refl)

pub returns-clause-grows : goal.returns-clause-grows
returns-clause-grows c = Grows-trans _ _ _ c.in_ok-cell.ensures.grows
    (Grows-formula _ _ c.in_ok-faults.ensures.grows refl)

pub returns-clause-step : goal.returns-clause-step
returns-clause-step c =
    steps c.args.b.now _ _ c.args.there c.args.so_far c.args.next _ c.in_ok-cell.ensures.chosen refl
    c.in_ok-faults.ensures.grows
    (rw (c.faults.ensures, c.faults-2.ensures) at c.in_ok-faults.ensures.wrong)
    (rw (c.faults.ensures, c.faults-2.ensures) at c.in_ok-faults.ensures.big)
