use Rattle.std.proofs.Common.{ℕ, ◌<◌, slice_index_or}
use Rattle.tla_values.specs.Sets.{Normal}
use Rattle.tla_values.specs.declared.value.Value.{Value}
use Rattle.explicit_tests.proofs.asking.is_normal_state.Given as goal

abbrev pub invariant-loop-v : goal.invariant-loop-v
invariant-loop-v l = (k : ℕ) (d : Value) → k < l.v-index → Normal (slice_index_or l.s.vals k d)
