use Rattle.std.proofs.Common.{refl}
use Rattle.cell_arena.proofs.Growing.{Grows-formula, Grows-trans}
use Rattle.expr_rewriter.proofs.UpdateNodes.{both_below, has_index, index_there, own_below, takes_change, update_sort, updates_node}
use Rattle.expr_rewriter.proofs.updating.update_node.Goals as goal

pub child-index-requires : goal.child-index-requires
child-index-requires c = index_there c.args.b.now c.args.e.now c.args.whole c.args.place c.args.change c.requires c.as_slice.result.now c.as_slice.ensures

pub index_of-requires : goal.index_of-requires
index_of-requires c =
    has_index c.args.b.now c.args.e.now c.args.whole c.args.place c.args.change c.requires c.as_slice.result.now c.child-index.result.now
    c.as_slice.ensures c.child-index.ensures.child

pub update-requires : goal.update-requires
update-requires c =
    takes_change c.args.b.now c.args.e.now c.args.whole c.args.place c.args.change c.requires c.as_slice.result.now c.child-index.result.now
    c.in_ok-at.at c.as_slice.ensures c.child-index.ensures.child c.in_ok-at.ensures

pub strict-requires-clause-operands : goal.strict-requires-clause-operands
strict-requires-clause-operands c =
    both_below c.args.b.now c.args.e.now c.args.whole c.args.place c.args.change c.requires c.as_slice.result.now c.child-index.result.now
    c.in_ok-at.at c.as_slice.ensures c.child-index.ensures.child c.in_ok-at.ensures c.update.new.b c.in_ok-own.own c.in_ok-own.ensures.grows
    c.in_ok-own.ensures.update

pub strict-requires-clause-own : goal.strict-requires-clause-own
strict-requires-clause-own c =
    own_below c.args.b.now c.args.e.now c.args.whole c.args.place c.args.change c.requires c.as_slice.result.now c.child-index.result.now
    c.in_ok-at.at c.as_slice.ensures c.child-index.ensures.child c.in_ok-at.ensures c.update.new.b c.in_ok-own.own c.in_ok-own.ensures.grows
    c.in_ok-own.ensures.update

pub returns-in_err-x-clause-grows : goal.returns-in_err-x-clause-grows
returns-in_err-x-clause-grows c =
    Grows-trans c.args.b.now c.update.new.b _ c.in_ok-own.ensures.grows (Grows-formula c.update.new.b _ c.in_err-x.ensures.grows refl)

pub returns-clause-sort : goal.returns-clause-sort
returns-clause-sort c =
    update_sort c.args.b.now c.args.e.now c.args.whole c.args.place c.args.change c.requires c.as_slice.result.now c.child-index.result.now
    c.in_ok-at.at c.as_slice.ensures c.child-index.ensures.child c.in_ok-at.ensures c.update.new.b c.in_ok-own.own c.in_ok-own.ensures.grows
    c.in_ok-own.ensures.update _ _ (Grows-formula c.update.new.b _ c.in_ok-x.ensures.grows refl) c.in_ok-x.ensures.strict

pub returns-clause-updates : goal.returns-clause-updates
returns-clause-updates c =
    updates_node c.args.b.now c.args.e.now c.args.whole c.args.place c.args.change c.requires c.as_slice.result.now c.child-index.result.now
    c.in_ok-at.at c.as_slice.ensures c.child-index.ensures.child c.in_ok-at.ensures c.update.new.b c.in_ok-own.own c.in_ok-own.ensures.grows
    c.in_ok-own.ensures.update _ _ refl c.in_ok-x.ensures.grows c.in_ok-x.ensures.strict

pub returns-clause-grows : goal.returns-clause-grows
returns-clause-grows c =
    Grows-trans c.args.b.now c.update.new.b _ c.in_ok-own.ensures.grows (Grows-formula c.update.new.b _ c.in_ok-x.ensures.grows refl)
