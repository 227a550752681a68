use Rattle.std.proofs.Common.{refl, ◌∙◌}
use Rattle.cell_arena.proofs.Growing.{Grows-formula, Grows-trans}
use Rattle.member_choices.proofs.Collected.{are-images, bodies-named, makes-images}
use Rattle.member_choices.proofs.sets.images.Goals as goal

pub join_bodies-requires-clause-named : goal.join_bodies-requires-clause-named
join_bodies-requires-clause-named c = bodies-named _ _ _ c.requires

pub set_of_cells-requires : goal.set_of_cells-requires
set_of_cells-requires c =
    are-images c.args.b.now _ c.args.cs.now c.args.bodies.now _ c.requires c.in_ok-faults.ensures.grows.vars
    (c.as_slice.ensures.value ∙ c.in_ok-values.ensures)

pub returns-in_err-cell-clause-grows : goal.returns-in_err-cell-clause-grows
returns-in_err-cell-clause-grows c = Grows-trans _ _ _
    (Grows-formula _ _ c.in_ok-faults.ensures.grows refl) c.in_err-cell.ensures.grows

pub returns-clause-grows : goal.returns-clause-grows
returns-clause-grows c = Grows-trans _ _ _ (Grows-formula _ _ c.in_ok-faults.ensures.grows refl)
    c.in_ok-cell.ensures.grows

pub returns-clause-makes : goal.returns-clause-makes
returns-clause-makes c =
    makes-images c.args.b.now _ _ c.args.cs.now c.args.bodies.now _ _ _ c.requires.are.count refl
    c.in_ok-faults.ensures.joins
    (c.as_slice.ensures.value ∙ c.in_ok-values.ensures) c.in_ok-cell.ensures.collects c.in_ok-cell.ensures.grows
