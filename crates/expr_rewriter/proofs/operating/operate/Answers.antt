use Rattle.std.proofs.Common.{refl}
use Rattle.cell_arena.proofs.Growing.{Grows-formula, Grows-trans}
use Rattle.expr_rewriter.proofs.OwnRows.{operands_below, operates, own_below}
use Rattle.expr_rewriter.proofs.operating.operate.Goals as goal

pub strict-requires-clause-operands : goal.strict-requires-clause-operands
strict-requires-clause-operands c =
    operands_below c.args.b.now _ c.args.e.now c.args.parts.now c.requires c.in_ok-own.ensures.grows

pub strict-requires-clause-own : goal.strict-requires-clause-own
strict-requires-clause-own c =
    own_below c.args.b.now _ c.args.e.now c.args.parts.now _ c.requires c.in_ok-own.ensures.own.sort

pub returns-in_err-cells-clause-grows : goal.returns-in_err-cells-clause-grows
returns-in_err-cells-clause-grows c =
    Grows-trans _ _ _ c.in_ok-own.ensures.grows (Grows-formula _ _ c.in_err-cells.ensures.grows refl)

pub returns-clause-operates : goal.returns-clause-operates
returns-clause-operates c =
    operates c.args.b.now _ _ c.args.e.now c.args.parts.now _ _ c.requires c.in_ok-own.ensures.grows
    c.in_ok-own.ensures.own
    c.in_ok-cells.ensures.grows refl c.in_ok-cells.ensures.strict

pub returns-clause-grows : goal.returns-clause-grows
returns-clause-grows c =
    Grows-trans _ _ _ c.in_ok-own.ensures.grows (Grows-formula _ _ c.in_ok-cells.ensures.grows refl)
