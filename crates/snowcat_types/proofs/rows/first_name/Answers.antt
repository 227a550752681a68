use Rattle.std.proofs.Common.{◌≡◌, IfOk, arith, subst}
use Rattle.snowcat_rows.specs.Types.{mean}
use Rattle.snowcat_types.specs.inner.Built.{unknown_from}
use Rattle.snowcat_types.proofs.FormSteps.{first_is}
use Rattle.snowcat_types.proofs.rows.first_name.Goals as goal

pub returns : goal.returns
returns c =
    subst (λ z. IfOk c.unknown.result (λ t. mean t ≡ z)) (first_is (unknown_from c.args.first) c.args.n (let h = c.if-n-eq0.false in omega (arith, h))) c.unknown.ensures
