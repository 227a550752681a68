use Rattle.std.proofs.Common.{◌≡◌, map, drop}
use Rattle.tla_values.specs.Sets.{distinct}
use Rattle.tla_values.specs.declared.value.Value.TheVariants as value
use Rattle.cell_arena.proofs.differ.all_differ.Given as goal

abbrev pub invariant-loop-i : goal.invariant-loop-i
invariant-loop-i l = distinct (map (λ t. value.Text t) (drop l.i l.texts)) ≡ distinct (map (λ t. value.Text t) l.texts)
