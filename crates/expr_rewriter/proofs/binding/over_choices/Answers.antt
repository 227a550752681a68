use Rattle.expr_rewriter.proofs.Rows.{filter_one, filter_sort, function_sort, map_sort}
use Rattle.expr_rewriter.proofs.binding.over_choices.Goals as goal

pub kept-requires-clause-choices : goal.kept-requires-clause-choices
kept-requires-clause-choices c = filter_one c.args.b.now _ _ c.args.bodies.now c.in-Filter.is c.requires

pub returns-in_ok-x-in-Filter-clause-sort : goal.returns-in_ok-x-in-Filter-clause-sort
returns-in_ok-x-in-Filter-clause-sort c = filter_sort _ _ _ _ _ _ c.in-Filter.is c.in_ok-x-in-Filter.ensures.makes

pub returns-in_ok-x-in-MapOver-clause-sort : goal.returns-in_ok-x-in-MapOver-clause-sort
returns-in_ok-x-in-MapOver-clause-sort c = map_sort _ _ _ _ _ _ c.in-MapOver.is c.in_ok-x-in-MapOver.ensures.makes

pub returns-in_ok-x-in-FunOf-clause-sort : goal.returns-in_ok-x-in-FunOf-clause-sort
returns-in_ok-x-in-FunOf-clause-sort c = function_sort _ _ _ _ _ _ c.in-FunOf.is c.in_ok-x-in-FunOf.ensures.makes
