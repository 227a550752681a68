use Rattle.std.proofs.Common.{ℕ, ◌<◌, get_or}
use Rattle.tla_values.specs.Sets.{Normal}
use Rattle.tla_values.specs.declared.value.Value.{Value}
use Rattle.tla_values.proofs.normal.+normal.Given as goal

abbrev pub invariant-are_normal-loop-item : goal.invariant-are_normal-loop-item
invariant-are_normal-loop-item l = (k : ℕ) (d : Value) → k < l.item-index → Normal (get_or l.items k d)

abbrev pub invariant-are_normal_pairs-loop-argument : goal.invariant-are_normal_pairs-loop-argument
invariant-are_normal_pairs-loop-argument l =
    (k : ℕ) (d : Value × Value) → k < l.argument-index → Normal (get_or l.pairs k d).0 × Normal (get_or l.pairs k d).1
