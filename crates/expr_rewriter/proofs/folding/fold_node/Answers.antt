use Rattle.std.proofs.Common.{refl}
use Rattle.cell_arena.proofs.Growing.{Grows-formula}
use Rattle.expr_rewriter.proofs.FoldNodes.{both_below, fold_sort, folds_node, own_below}
use Rattle.expr_rewriter.proofs.folding.fold_node.Goals as goal

pub strict-requires-clause-operands : goal.strict-requires-clause-operands
strict-requires-clause-operands c = both_below c.args.b.now c.args.e.now c.args.first c.args.seq c.args.own c.requires

pub strict-requires-clause-own : goal.strict-requires-clause-own
strict-requires-clause-own c = own_below c.args.b.now c.args.e.now c.args.first c.args.seq c.args.own c.requires

pub returns-clause-sort : goal.returns-clause-sort
returns-clause-sort c =
    fold_sort c.args.b.now c.args.e.now c.args.first c.args.seq c.args.own c.requires _ _
    (Grows-formula c.args.b.now _ c.in_ok-x.ensures.grows refl) c.in_ok-x.ensures.strict

pub returns-clause-folds : goal.returns-clause-folds
returns-clause-folds c =
    folds_node c.args.b.now c.args.e.now c.args.first c.args.seq c.args.own c.requires _ _ refl c.in_ok-x.ensures.grows c.in_ok-x.ensures.strict
