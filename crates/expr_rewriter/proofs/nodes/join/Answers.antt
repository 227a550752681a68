use Rattle.expr_rewriter.proofs.Levels.{and_joins, and_parts, and_sort, can_operate, if_both, if_guard, if_made, if_sort, operate_joins, or_joins, or_parts, or_sort}
use Rattle.expr_rewriter.proofs.nodes.join.Goals as goal

pub in_turn-requires : goal.in_turn-requires
in_turn-requires c = and_parts _ c.args.e.now _ c.requires c.in-And.is

pub in_turn-requires-in-Or : goal.in_turn-requires-in-Or
in_turn-requires-in-Or c = or_parts _ c.args.e.now _ c.requires c.in-Or.is

pub returns-in_ok-x-in-And-clause-sort : goal.returns-in_ok-x-in-And-clause-sort
returns-in_ok-x-in-And-clause-sort c =
    and_sort c.args.b.now _ c.args.e.now c.args.parts.now _ c.requires c.in-And.is c.in_ok-x-in-And.ensures.takes.cells

pub returns-in_ok-x-in-And-clause-joins : goal.returns-in_ok-x-in-And-clause-joins
returns-in_ok-x-in-And-clause-joins c = and_joins _ _ c.args.e.now _ _ c.in-And.is c.in_ok-x-in-And.ensures.takes

pub returns-in_ok-x-in-Or-clause-sort : goal.returns-in_ok-x-in-Or-clause-sort
returns-in_ok-x-in-Or-clause-sort c =
    or_sort c.args.b.now _ c.args.e.now c.args.parts.now _ c.requires c.in-Or.is c.in_ok-x-in-Or.ensures.takes.cells

pub returns-in_ok-x-in-Or-clause-joins : goal.returns-in_ok-x-in-Or-clause-joins
returns-in_ok-x-in-Or-clause-joins c = or_joins _ _ c.args.e.now _ _ c.in-Or.is c.in_ok-x-in-Or.ensures.takes

pub chosen-requires-clause-guard : goal.chosen-requires-clause-guard
chosen-requires-clause-guard c = if_guard _ c.args.e.now _ c.requires c.in-If.is _

pub chosen-requires-clause-branches : goal.chosen-requires-clause-branches
chosen-requires-clause-branches c = if_both _ c.args.e.now _ c.requires c.in-If.is _

pub returns-in_ok-x-in-len3-clause-sort : goal.returns-in_ok-x-in-len3-clause-sort
returns-in_ok-x-in-len3-clause-sort c =
    if_sort _ c.args.e.now _ c.requires c.in-If.is _ _ _ c.in_ok-x-in-len3.ensures.takes

pub returns-in_ok-x-in-len3-clause-joins : goal.returns-in_ok-x-in-len3-clause-joins
returns-in_ok-x-in-len3-clause-joins c =
    if_made _ c.args.e.now _ c.requires c.in-If.is _ _ _ c.in_ok-x-in-len3.ensures.takes

pub returns-in_ok-x-in_default : goal.returns-in_ok-x-in_default
returns-in_ok-x-in_default c =
    let can = can_operate c.args.b.now c.args.e.now c.args.parts.now c.requires c.in_default.not-And c.in_default.not-Or c.in_default.not-If in
    record {
      sort = c.in_ok-x-in_default.ensures.sort;
      joins = operate_joins _ _ c.args.e.now _ _ can.operated c.in_ok-x-in_default.ensures.operates;
      grows = c.in_ok-x-in_default.ensures.grows;
    }
