use Rattle.std.proofs.Common.{arith, ◌≡◌, true, false}
use Rattle.std.specs.Prelude.{nat_le}
use Rattle.tla_meaning.specs.declared.op.Op.TheVariants as op
use Rattle.kera_reducer.specs.inner.Standing.{MakesOf}
use Rattle.kera_reducer.proofs.IfOks.{ok_by}
use Rattle.kera_reducer.proofs.RowsMade.{large_power_makes, small_power_makes}
use Rattle.kera_reducer.proofs.powers.power.Goals as goal

pub returns-then-number-le7 : goal.returns-then-number-le7
returns-then-number-le7 c =
    let m = c.args.made.now in
    let h = c.if-number-le7.true in
    let le : nat_le c.in_ok-number.number 7 ≡ true = grind (arith) in
    ok_by _ (λ k. MakesOf m op.Pow c.args.kids.items k) _ c.small_power.ensures
    (λ k e. small_power_makes m c.in_ok-base.base c.in_ok-base.exponent c.in_ok-number.number c.args.kids.items k
    c.in_ok-base.ensures c.in_ok-number.ensures le e)

pub returns-else-number-le7 : goal.returns-else-number-le7
returns-else-number-le7 c =
    let m = c.args.made.now in
    let h = c.if-number-le7.false in
    let more : nat_le c.in_ok-number.number 7 ≡ false = grind (arith) in
    ok_by _ (λ k. MakesOf m op.Pow c.args.kids.items k) _ c.large_power.ensures
    (λ k e. large_power_makes m c.in_ok-base.base c.in_ok-base.exponent c.in_ok-number.number c.args.kids.items k
    c.in_ok-base.ensures c.in_ok-number.ensures more e)
