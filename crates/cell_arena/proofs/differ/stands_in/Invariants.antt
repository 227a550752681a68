use Rattle.std.proofs.Common.{◌≡◌, map, drop}
use Rattle.tla_values.specs.Sets.{member}
use Rattle.tla_values.specs.declared.value.Value.TheVariants as value
use Rattle.cell_arena.proofs.differ.stands_in.Given as goal

abbrev pub invariant-loop-other : goal.invariant-loop-other
invariant-loop-other l = member (value.Text l.text) (map (λ t. value.Text t) (drop l.other-index l.texts)) ≡ member (value.Text l.text) (map (λ t. value.Text t) l.texts)
