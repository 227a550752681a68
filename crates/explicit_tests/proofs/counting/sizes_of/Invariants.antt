use Rattle.std.proofs.Common.{◌≡◌, length}
use Rattle.step_encoder.specs.Encoders.{IsEncoder}
use Rattle.explicit_tests.proofs.counting.sizes_of.Given as goal

abbrev pub invariant-loop-level : goal.invariant-loop-level
invariant-loop-level l = record {
  encoder : IsEncoder l.encoder;
  count : length l.encoder.levels ≡ l.level;
}
