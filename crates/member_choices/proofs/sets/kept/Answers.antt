use Rattle.std.proofs.Common.{refl}
use Rattle.cell_arena.proofs.Growing.{Grows-formula, Grows-trans}
use Rattle.cell_merge.proofs.Chosen.{lead-there}
use Rattle.member_choices.proofs.Collected.{makes-part}
use Rattle.member_choices.proofs.Parts.{ones}
use Rattle.member_choices.proofs.sets.kept.Goals as goal

pub keep_members-requires-clause-ones : goal.keep_members-requires-clause-ones
keep_members-requires-clause-ones c = ones _ _ c.requires.choices

pub set-requires-clause-older : goal.set-requires-clause-older
set-requires-clause-older c =
    rw c.from_vec.ensures (lead-there _ c.requires.choices.sort _
    (c.in_ok-edges.ensures.keeps.sorts c.requires.choices.sort c.requires.choices.are))

pub returns-in_err-cell-clause-grows : goal.returns-in_err-cell-clause-grows
returns-in_err-cell-clause-grows c = Grows-trans _ _ _
    (Grows-formula _ _ c.in_ok-edges.ensures.grows refl) c.in_err-cell.ensures.grows

pub returns-clause-grows : goal.returns-clause-grows
returns-clause-grows c = Grows-trans _ _ _ (Grows-formula _ _ c.in_ok-edges.ensures.grows refl)
    c.in_ok-cell.ensures.grows

pub returns-clause-makes : goal.returns-clause-makes
returns-clause-makes c =
    makes-part c.args.b.now _ _ c.args.cs.now c.args.bodies.now _ _ _ c.requires.bodies refl
    (rw c.from_vec.ensures (c.in_ok-edges.ensures.keeps)) c.in_ok-cell.ensures.grows c.in_ok-cell.ensures.cell
    c.in_ok-cell.ensures.value
