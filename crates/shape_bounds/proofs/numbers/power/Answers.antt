use Rattle.shape_bounds.proofs.Sums.{small_power, great_power}
use Rattle.shape_bounds.proofs.numbers.power.Goals as goal

pub returns-then-base-le1 : goal.returns-then-base-le1
returns-then-base-le1 c = small_power c.args.base c.args.exponent c.if-base-le1.true c.if-exponent-eq0.false

pub returns-then-exponent-ge64 : goal.returns-then-exponent-ge64
returns-then-exponent-ge64 c = great_power c.args.base c.args.exponent c.if-base-le1.false c.if-exponent-ge64.true
