use Rattle.std.proofs.Common.{refl}
use Rattle.cell_arena.proofs.Growing.{Grows-formula, Grows-trans}
use Rattle.function_operators.proofs.Updating.{made_there, unmade}
use Rattle.function_operators.proofs.updates.update.Goals as goal

pub returns-in_default-clause-update : goal.returns-in_default-clause-update
returns-in_default-clause-update c =
    unmade c.args.b.now _ _ _ _ _ _ c.requires.is c.requires.at c.in_default.not-Some c.sure.ensures.cells
    c.sure.ensures.shows

pub returns-in_err-faults-clause-grows : goal.returns-in_err-faults-clause-grows
returns-in_err-faults-clause-grows c =
    Grows-trans _ _ _ c.in_ok-id.ensures.grows (Grows-formula _ _ c.in_err-faults.ensures.grows refl)

pub returns-clause-update : goal.returns-clause-update
returns-clause-update c =
    made_there c.args.b.now c.put.new.b _ _ _ _ _ c.in-Some.outside c.in-Some.new _ _ c.in_ok-faults.faults _ _
    c.requires.is c.requires.at
    c.in-Some.is refl c.in_ok-faults.ensures.grows c.in_ok-id.ensures.puts c.faults.ensures
    c.in_ok-faults.ensures.masks refl

pub returns-clause-grows : goal.returns-clause-grows
returns-clause-grows c = Grows-trans _ _ _ c.in_ok-id.ensures.grows
    (Grows-formula _ _ c.in_ok-faults.ensures.grows refl)
