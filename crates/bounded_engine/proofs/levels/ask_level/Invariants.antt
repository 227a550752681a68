use Rattle.std.proofs.Common.{◌++◌, Some, take}
use Rattle.bounded_engine.specs.Sections.{all_queries, asked_below, of_level}
use Rattle.bounded_engine.specs.inner.Asking.{HasRefuted}
use Rattle.bounded_engine.proofs.levels.ask_level.Given as goal

abbrev pub invariant-loop-query : goal.invariant-loop-query
invariant-loop-query l =
    HasRefuted (Some l.a.width) l.a.job.now l.fn.journal.budget (asked_below l.level ++ of_level l.level (take l.query-index all_queries)) l.journal
