use Rattle.std.proofs.Common.{Some}
use Rattle.bounded_engine.proofs.AtLevels.{begins_level, by_budget, ends_level, next_query, own_budget, query_at, until_query}
use Rattle.bounded_engine.proofs.levels.ask_level.Goals as goal

pub loop-query-init : goal.loop-query-init
loop-query-init c = begins_level (Some c.args.a.now.width) c.args.a.now.job.now c.args.journal.now.budget c.args.level c.args.journal.now c.requires.refuted

pub ask-requires-clause-refuted : goal.ask-requires-clause-refuted
ask-requires-clause-refuted c =
    own_budget (Some c.args.a.now.width) c.args.a.now.job.now c.args.journal.now.budget _ c.loop-query.journal
    (until_query (Some c.args.a.now.width) c.args.a.now.job.now c.args.journal.now.budget c.args.level c.loop-query.journal c.loop-query.query-index _
    (query_at c.loop-query.query-index _ c.loop-query-test.true) c.loop-query.invariant)

pub returns-in-Some : goal.returns-in-Some
returns-in-Some c =
    by_budget c.args.a.now c.loop-query.journal.budget c.args.journal.now.budget c.args.level _ c.ask.new.journal c.in_ok-found.found _
    c.loop-query.invariant.budget_is c.in-Some.is c.in_ok-found.ensures

pub loop-query-preserved : goal.loop-query-preserved
loop-query-preserved c =
    next_query (Some c.args.a.now.width) c.args.a.now.job.now c.args.journal.now.budget c.args.level c.ask.new.journal c.loop-query.query-index _
    (query_at c.loop-query.query-index _ c.loop-query-test.true)
    (by_budget c.args.a.now c.loop-query.journal.budget c.args.journal.now.budget c.args.level _ c.ask.new.journal c.in_ok-found.found _
    c.loop-query.invariant.budget_is c.in_default.is c.in_ok-found.ensures)

pub returns : goal.returns
returns c =
    ends_level (Some c.args.a.now.width) c.args.a.now.job.now c.args.journal.now.budget c.args.level c.loop-query.journal c.loop-query.query-index c.loop-query-test.false
    c.loop-query.invariant
