use Rattle.std.proofs.Common.{◌≡◌, Some, length}
use Rattle.bounded_engine.specs.Sections.{asked_below}
use Rattle.bounded_engine.specs.inner.Asking.{HasRefuted}
use Rattle.bounded_engine.specs.inner.Finding.{IsEncoderOf}
use Rattle.bounded_engine.proofs.checking.check_levels.Given as goal

abbrev pub invariant-loop-level : goal.invariant-loop-level
invariant-loop-level l = record {
  encoder : IsEncoderOf l.a l.encoder;
  count : length l.encoder.levels ≡ l.level;
  refuted : HasRefuted (Some l.a.width) l.a.job.now l.fn.conflicts (asked_below l.level) l.journal;
}
