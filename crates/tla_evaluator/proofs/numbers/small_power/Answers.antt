use Rattle.std.proofs.Common.{◌≡◌, ◌∙◌, sym, ap, pos, arith}
use Rattle.tla_evaluator.proofs.Words.{power_of}
use Rattle.std.proofs.lemmas.Int.{ints}
use Rattle.tla_evaluator.proofs.NumberLemmas.{power_one, minus_even, minus_odd}
use Rattle.tla_evaluator.proofs.numbers.small_power.Goals as goal

pub returns-then-a-eq1 : goal.returns-then-a-eq1
returns-then-a-eq1 c = let e : c.args.a ≡ pos 1 = omega (arith, ints) in sym (ap (λ x. power_of x c.args.n) e ∙ power_one c.args.n)

pub returns-then-n-eq0-2 : goal.returns-then-n-eq0-2
returns-then-n-eq0-2 c = minus_even _ _ (omega (arith, ints)) c.if-n-eq0-2.true

pub returns-else-n-eq0-2 : goal.returns-else-n-eq0-2
returns-else-n-eq0-2 c = minus_odd _ _ (omega (arith, ints)) c.if-n-eq0-2.false
