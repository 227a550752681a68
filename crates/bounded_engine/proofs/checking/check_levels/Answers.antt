use Rattle.std.proofs.Common.{◌≡◌, ◌+◌, ◌<◌, ◌≤◌, Some, length, ap, arith}
use Rattle.bounded_engine.specs.inner.Finding.{types_of}
use Rattle.bounded_engine.proofs.AtLevels.{by_budget, levels_more, own_budget, with_level}
use Rattle.bounded_engine.proofs.Checked.{clean_checked, run_checked}
use Rattle.bounded_engine.proofs.Journals.{first_journal}
use Rattle.bounded_engine.proofs.checking.check_levels.Goals as goal

pub loop-level-init : goal.loop-level-init
loop-level-init c = record {
  encoder = record { encoder = c.in_ok-encoder.ensures.encoder.0; system = c.in_ok-encoder.ensures.begins.0; width = c.in_ok-encoder.ensures.encoder.1 };
  count = ap length c.in_ok-encoder.ensures.begins.1;
  refuted =
      first_journal (Some c.args.a.now.width) c.args.a.now.job.now c.args.conflicts _ c.new-journal.ensures.sections c.new-journal.ensures.budget c.new-journal.ensures.left;
}

pub add_level-requires-clause-next : goal.add_level-requires-clause-next
add_level-requires-clause-next c =
    let short : c.args.longest ≤ 1000 = c.requires.short in
    let at : c.loop-level.level < c.args.longest + 1 = c.loop-level-test.true in
    (c.loop-level.invariant.count, omega arith)

pub ask_level-requires-clause-ready : goal.ask_level-requires-clause-ready
ask_level-requires-clause-ready c =
    let short : c.args.longest ≤ 1000 = c.requires.short in
    let at : c.loop-level.level < c.args.longest + 1 = c.loop-level-test.true in
    let count : length c.add_level.new.encoder.levels ≡ c.loop-level.level + 1 =
    levels_more c.loop-level.encoder c.add_level.new.encoder c.loop-level.level c.loop-level.invariant.count c.in_ok-add_level.ensures in (
      c.requires.ready,
      record {
        of = with_level c.args.a.now c.loop-level.encoder c.add_level.new.encoder c.loop-level.invariant.encoder c.in_ok-add_level.ensures;
        there = omega arith;
      },
      omega arith,
    )

pub ask_level-requires-clause-refuted : goal.ask_level-requires-clause-refuted
ask_level-requires-clause-refuted c =
    own_budget (Some c.args.a.now.width) c.args.a.now.job.now c.args.conflicts _ c.loop-level.journal c.loop-level.invariant.refuted

pub returns-in-Some : goal.returns-in-Some
returns-in-Some c =
    let at : c.loop-level.level < c.args.longest + 1 = c.loop-level-test.true in
    run_checked (Some c.args.a.now.width) c.args.a.now.job.now (types_of c.args.a.now) c.args.longest c.args.conflicts c.in-Some.verdict
    c.ask_level.new.journal.sections.items c.finish.result c.finish.ensures.verdict c.finish.ensures.sections
    (by_budget c.args.a.now c.loop-level.journal.budget c.args.conflicts c.loop-level.level _ c.ask_level.new.journal c.in_ok-found.found _
    c.loop-level.invariant.refuted.budget_is c.in-Some.is c.in_ok-found.ensures c.args.longest (omega arith))

pub loop-level-preserved : goal.loop-level-preserved
loop-level-preserved c = record {
  encoder = with_level c.args.a.now c.loop-level.encoder c.add_level.new.encoder c.loop-level.invariant.encoder c.in_ok-add_level.ensures;
  count = levels_more c.loop-level.encoder c.add_level.new.encoder c.loop-level.level c.loop-level.invariant.count c.in_ok-add_level.ensures;
  refuted =
      by_budget c.args.a.now c.loop-level.journal.budget c.args.conflicts c.loop-level.level _ c.ask_level.new.journal c.in_ok-found.found _
      c.loop-level.invariant.refuted.budget_is c.in_default.is c.in_ok-found.ensures;
}

pub returns : goal.returns
returns c =
    let past : c.args.longest + 1 ≤ c.loop-level.level = c.loop-level-test.false in
    let end : c.loop-level.level ≡ c.args.longest + 1 = omega (arith, c.loop-level.auto.level-end) in
    run_checked (Some c.args.a.now.width) c.args.a.now.job.now (types_of c.args.a.now) c.args.longest c.args.conflicts _ c.loop-level.journal.sections.items
    c.finish-2.result c.finish-2.ensures.verdict c.finish-2.ensures.sections
    (clean_checked c.args.a.now.width c.args.a.now.job.now (types_of c.args.a.now) c.args.conflicts c.loop-level.level c.args.longest c.loop-level.journal end
    c.loop-level.invariant.refuted)
