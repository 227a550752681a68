use Rattle.cell_arena.proofs.Growing.{Grows-formula, Grows-trans}
use Rattle.std.proofs.Common.{refl}
use Rattle.outcome_cells.proofs.Later.{AreCells-below}
use Rattle.expr_rewriter.proofs.Bound.{can_bind, cells_are, node_binds, node_sort, own_cells, sets_below}
use Rattle.expr_rewriter.proofs.binding.bind_node.Goals as goal

pub over_choices-requires : goal.over_choices-requires
over_choices-requires c = can_bind _ c.args.e.now _ _ _ c.requires

pub strict-requires-clause-operands : goal.strict-requires-clause-operands
strict-requires-clause-operands c =
    sets_below _ c.over_choices.new.b _ _ c.in_ok-own.ensures.grows (cells_are _ c.args.e.now _ _ _ c.requires)

pub strict-requires-clause-own : goal.strict-requires-clause-own
strict-requires-clause-own c =
    AreCells-below c.over_choices.new.b _ c.in_ok-own.own
    (own_cells _ c.args.e.now _ _ _ c.requires c.over_choices.new.b c.in_ok-own.own c.in_ok-own.ensures.sort)

pub returns-in_err-x-clause-grows : goal.returns-in_err-x-clause-grows
returns-in_err-x-clause-grows c =
    Grows-trans c.args.b.now c.over_choices.new.b _ c.in_ok-own.ensures.grows (Grows-formula c.over_choices.new.b _ c.in_err-x.ensures.grows refl)

pub returns-clause-sort : goal.returns-clause-sort
returns-clause-sort c =
    node_sort c.args.b.now c.args.e.now c.args.sets.now c.args.cs.now c.args.bodies.now c.requires c.over_choices.new.b _ c.in_ok-own.own _
    (Grows-formula c.over_choices.new.b _ c.in_ok-x.ensures.grows refl) c.in_ok-own.ensures.sort c.in_ok-x.ensures.strict

pub returns-clause-binds : goal.returns-clause-binds
returns-clause-binds c =
    node_binds c.args.b.now c.args.e.now c.args.sets.now c.args.cs.now c.args.bodies.now c.requires c.over_choices.new.b _ c.in_ok-own.own _
    c.in_ok-own.ensures.grows refl c.in_ok-x.ensures.grows c.in_ok-own.ensures.sort c.in_ok-own.ensures.binds c.in_ok-x.ensures.strict

pub returns-clause-grows : goal.returns-clause-grows
returns-clause-grows c =
    Grows-trans c.args.b.now c.over_choices.new.b _ c.in_ok-own.ensures.grows (Grows-formula c.over_choices.new.b _ c.in_ok-x.ensures.grows refl)
