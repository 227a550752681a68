-- Which ranges lie between bounds, by computing.
use Rattle.std.proofs.Common.{◌≡◌, true, false, refl, pos, negsuc}
use Rattle.tla_values.specs.declared.value.Value.TheVariants as value
use Rattle.tla_values.specs.declared.value.Value.TheOpen as layer
use Rattle.value_operators.specs.Ranges.{lie_between}

-- 1..3 between 1 and 3
whole : lie_between (pos 1) (pos 3) (layer.Int (pos 1)) (layer.Int (pos 3)) ≡ true
whole = simp (value.outs-Int)

-- -1..1 between -3 and 2
within : lie_between (negsuc 2) (pos 2) (layer.Int (negsuc 0)) (layer.Int (pos 1)) ≡ true
within = simp (value.outs-Int)

-- 1..3 between 2 and 3, and between 1 and 2
begins_before : lie_between (pos 2) (pos 3) (layer.Int (pos 1)) (layer.Int (pos 3)) ≡ false
begins_before = simp (value.outs-Int)

ends_behind : lie_between (pos 1) (pos 2) (layer.Int (pos 1)) (layer.Int (pos 3)) ≡ false
ends_behind = simp (value.outs-Int)

-- 1..0, which has no numbers, between bounds that have none between them
of_no_numbers : lie_between (pos 7) (pos 5) (layer.Int (pos 1)) (layer.Int (pos 0)) ≡ true
of_no_numbers = refl
