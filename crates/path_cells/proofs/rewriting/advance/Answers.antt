use Rattle.std.proofs.Common.{refl, sym, ◌∙◌}
use Rattle.path_cells.specs.inner.Walking.{adds, over}
use Rattle.path_cells.proofs.Paths.{can_add, can_take}
use Rattle.path_cells.proofs.rewriting.advance.Goals as goal

pub returns-then-is_bottom-clause-turn : goal.returns-then-is_bottom-clause-turn
returns-then-is_bottom-clause-turn c = over (sym c.is_bottom.ensures ∙ c.if-is_bottom.true) refl refl

pub step_cells-requires : goal.step_cells-requires
step_cells-requires c =
    can_take c.args.b.now c.args.walk c.args.step.now c.requires (sym c.is_bottom.ensures ∙ c.if-is_bottom.false)

pub take-requires-clause-below : goal.take-requires-clause-below
take-requires-clause-below c =
    can_add c.args.b.now c.step_cells.new.b c.args.walk c.args.step.now c.in_ok-made.made c.requires.below c.in_ok-made.ensures.grows
    c.in_ok-made.ensures.step

pub take-requires-clause-gives : goal.take-requires-clause-gives
take-requires-clause-gives c = c.in_ok-made.ensures.step.gives.one

pub returns-clause-turn : goal.returns-clause-turn
returns-clause-turn c =
    adds (sym c.is_bottom.ensures ∙ c.if-is_bottom.false) c.step_cells.new.b c.in_ok-made.made c.in_ok-made.ensures.grows c.in_ok-made.ensures.step
    c.in_ok-behind.ensures.grows c.in_ok-behind.ensures.arena c.in_ok-behind.ensures.takes
