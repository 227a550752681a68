use Rattle.std.proofs.Common.{refl, ◌∙◌, arith}
use Rattle.cell_arena.proofs.Growing.{Grows-formula, Grows-trans}
use Rattle.member_choices.proofs.Functional.{arrows-older, makes-function}
use Rattle.member_choices.proofs.Graphed.{arrows-named}
use Rattle.member_choices.proofs.Testing.{choices-later}
use Rattle.member_choices.proofs.graphs.function.Goals as goal

pub returns-in_err-faults-clause-grows : goal.returns-in_err-faults-clause-grows
returns-in_err-faults-clause-grows c = Grows-trans _ _ _ c.in_ok-arguments.ensures.grows
    (Grows-formula _ _ c.in_err-faults.ensures.grows refl)

pub fun-requires-clause-named : goal.fun-requires-clause-named
fun-requires-clause-named c =
    rw (c.from_vec.ensures, c.in_ok-arrows.ensures)
    (arrows-named _ c.args.cs.now _ _
    (choices-later _ _ c.args.cs.now c.requires.bodies.are.below
    (let g = c.in_ok-arguments.ensures.grows.formula.vars in let h = c.in_ok-faults.ensures.grows.vars in omega arith)))

pub fun-requires-clause-older : goal.fun-requires-clause-older
fun-requires-clause-older c =
    arrows-older c.args.b.now _ c.args.cs.now c.args.bodies.now _ _ _ c.requires.bodies c.requires.choices
    c.in_ok-arguments.ensures.grows
    c.in_ok-arguments.ensures.wholes c.in_ok-results.ensures
    (c.from_vec.ensures ∙ rw (c.as_slice.ensures.value, c.as_slice-2.ensures.value) at c.in_ok-arrows.ensures)

pub returns-in_err-cell-clause-grows : goal.returns-in_err-cell-clause-grows
returns-in_err-cell-clause-grows c =
    Grows-trans _ _ _ c.in_ok-arguments.ensures.grows
    (Grows-trans _ _ _ (Grows-formula _ _ c.in_ok-faults.ensures.grows refl) c.in_err-cell.ensures.grows)

pub returns-clause-grows : goal.returns-clause-grows
returns-clause-grows c =
    Grows-trans _ _ _ c.in_ok-arguments.ensures.grows
    (Grows-trans _ _ _ (Grows-formula _ _ c.in_ok-faults.ensures.grows refl) c.in_ok-cell.ensures.grows)

pub returns-clause-makes : goal.returns-clause-makes
returns-clause-makes c =
    makes-function c.args.b.now _ c.args.cs.now c.args.bodies.now _ _ _ c.requires.bodies c.requires.choices
    c.in_ok-arguments.ensures.grows
    c.in_ok-arguments.ensures.wholes c.in_ok-results.ensures
    (c.from_vec.ensures ∙ rw (c.as_slice.ensures.value, c.as_slice-2.ensures.value) at c.in_ok-arrows.ensures) _ _ _ _
    refl c.in_ok-faults.ensures.grows
    c.in_ok-faults.ensures.joins c.in_ok-cell.ensures.grows c.in_ok-cell.ensures.cell c.in_ok-cell.ensures.value
