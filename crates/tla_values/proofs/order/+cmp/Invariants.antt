use Rattle.std.proofs.Common.{◌≡◌, map, drop}
use Rattle.tla_values.specs.Order.{value_cmp, items_cmp, pairs_cmp}
use Rattle.tla_values.proofs.order.+cmp.Given as goal

abbrev pub invariant-cmp_items-loop-i : goal.invariant-cmp_items-loop-i
invariant-cmp_items-loop-i l =
    items_cmp (map value_cmp l.a) l.b ≡ items_cmp (map value_cmp (drop l.i l.a)) (drop l.i l.b)

abbrev pub invariant-cmp_pairs-loop-i : goal.invariant-cmp_pairs-loop-i
invariant-cmp_pairs-loop-i l =
    pairs_cmp (map (λ p. (value_cmp p.0, value_cmp p.1)) l.a) l.b
    ≡ pairs_cmp (map (λ p. (value_cmp p.0, value_cmp p.1)) (drop l.i l.a)) (drop l.i l.b)
