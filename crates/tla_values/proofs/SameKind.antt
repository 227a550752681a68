-- Equality of two values of one kind.
use Rattle.std.proofs.Common.{◌≡◌, Bool, ap, ◌∙◌, ℤ}
use Rattle.std.specs.Ordering.{is_eq, bool_cmp, int_cmp}
use Rattle.tla_values.specs.Order.{same_value}
use Rattle.tla_values.specs.declared.value.Value.{Bool as Truth, Int}
use Rattle.tla_values.specs.declared.value.Value.TheVariants.{outs-Bool, outs-Int}
use Rattle.tla_values.proofs.OrderLemmas.{value_cmp_out}

pub same_value-truths : (p q : Bool) → same_value (Truth p) (Truth q) ≡ is_eq (bool_cmp p q)
same_value-truths p q = ap is_eq (value_cmp_out (Truth p) (Truth q) ∙ rw (outs-Bool p, outs-Bool q))

pub same_value-ints : (m n : ℤ) → same_value (Int m) (Int n) ≡ is_eq (int_cmp m n)
same_value-ints m n = ap is_eq (value_cmp_out (Int m) (Int n) ∙ rw (outs-Int m, outs-Int n))
