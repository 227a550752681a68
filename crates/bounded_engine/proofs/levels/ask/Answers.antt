use Rattle.std.proofs.Common.{subst}
use Rattle.bounded_engine.specs.inner.Asking.{IsReply}
use Rattle.bounded_engine.proofs.AtLevels.{holds_answer, literal_below, open_answer, refuted_answer, shown_after}
use Rattle.bounded_engine.proofs.levels.ask.Goals as goal

pub ask-requires : goal.ask-requires
ask-requires c =
    literal_below c.args.a.now c.args.encoder.now c.args.question.level c.requires.ready.0 c.requires.ready.1 c.args.question.query c.query-literal.result
    c.requires.ready.3 c.query-literal.ensures

pub tell-requires-clause-shown : goal.tell-requires-clause-shown
tell-requires-clause-shown c =
    shown_after c.args.a.now c.args.encoder.now c.args.question c.query-literal.result c.args.journal.now.budget c.args.journal.now c.ask.new.self c.requires.ready.0
    c.requires.ready.1 c.requires.ready.3 c.query-literal.ensures c.requires.refuted c.in-Holds.assignment
    (subst (IsReply c.args.encoder.now.build.formula c.args.question c.query-literal.result c.args.journal.now c.ask.new.self) c.in-Holds.is c.in_ok-ask.ensures)

pub returns-in-Refuted : goal.returns-in-Refuted
returns-in-Refuted c =
    refuted_answer c.args.a.now c.args.encoder.now c.args.question c.query-literal.result c.args.journal.now.budget c.args.journal.now c.ask.new.self c.requires.ready.0
    c.requires.ready.1 c.requires.ready.3 c.query-literal.ensures c.requires.refuted
    (subst (IsReply c.args.encoder.now.build.formula c.args.question c.query-literal.result c.args.journal.now c.ask.new.self) c.in-Refuted.is c.in_ok-ask.ensures)

pub returns-in-Spent : goal.returns-in-Spent
returns-in-Spent c =
    open_answer c.args.a.now c.args.encoder.now c.args.question c.query-literal.result c.args.journal.now.budget c.args.journal.now c.ask.new.self c.requires.ready.0
    c.requires.ready.1 c.requires.ready.3 c.query-literal.ensures c.requires.refuted c.spent.result
    (subst (IsReply c.args.encoder.now.build.formula c.args.question c.query-literal.result c.args.journal.now c.ask.new.self) c.in-Spent.is c.in_ok-ask.ensures) c.spent.ensures

pub returns-in_ok-verdict-in-Holds : goal.returns-in_ok-verdict-in-Holds
returns-in_ok-verdict-in-Holds c =
    holds_answer c.args.a.now c.args.encoder.now c.args.question c.query-literal.result c.args.journal.now.budget c.args.journal.now c.ask.new.self c.requires.ready.0
    c.requires.ready.1 c.requires.ready.3 c.query-literal.ensures c.requires.refuted c.in-Holds.assignment c.in_ok-verdict-in-Holds.verdict
    (subst (IsReply c.args.encoder.now.build.formula c.args.question c.query-literal.result c.args.journal.now c.ask.new.self) c.in-Holds.is c.in_ok-ask.ensures)
    c.in_ok-verdict-in-Holds.ensures
