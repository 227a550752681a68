use Rattle.std.proofs.Common.{◌∙◌, map}
use Rattle.outcome_cells.specs.declared.cells.Cells.{Cells}
use Rattle.member_choices.proofs.Joined.{below-bigs, below-wrongs, bodies-join, negated-lit}
use Rattle.member_choices.proofs.Testing.{lits-later}
use Rattle.member_choices.proofs.bodies.join_bodies.Goals as goal

pub any_there-requires-clause-named : goal.any_there-requires-clause-named
any_there-requires-clause-named c = rw (c.as_slice.ensures.value, c.in_ok-wrong_lits.ensures)
    (below-wrongs _ c.args.bodies.now c.requires.named)

pub any_there-requires-2-clause-named : goal.any_there-requires-2-clause-named
any_there-requires-2-clause-named c =
    rw (c.as_slice-2.ensures.value, c.in_ok-big_lits.ensures)
    (lits-later _ _ (map (λ (x : Cells). x.big) c.args.bodies.now)
    (below-bigs _ c.args.bodies.now c.requires.named) c.in_ok-wrong.ensures.grows.vars)

pub returns-clause-joins : goal.returns-clause-joins
returns-clause-joins c =
    bodies-join _ _ _ c.args.cs.now c.args.bodies.now _ _ _ _ _ _ c.requires.one_each (c.as_slice.ensures.value
    ∙ c.in_ok-wrong_lits.ensures)
    (c.as_slice-2.ensures.value ∙ c.in_ok-big_lits.ensures) c.in_ok-wrong.ensures.any c.in_ok-some_big.ensures.any
    c.in_ok-some_big.ensures.grows
    c.in_ok-big.ensures.grows (λ a. negated-lit _ _ a c.negated.ensures) c.in_ok-big.ensures.value
