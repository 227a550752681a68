use Rattle.std.proofs.Common.{◌∙◌, ◌-◌, ap, arith, sym}
use Rattle.snowcat_types.specs.inner.Built.{unknown_from}
use Rattle.snowcat_types.proofs.FormSteps.{reached_at}
use Rattle.snowcat_types.proofs.updates.reached.Goals as goal

pub returns : goal.returns
returns c =
    c.in_ok-last.ensures ∙ ap (unknown_from c.args.first) c.in_ok-k.ensures
    ∙ sym (reached_at (unknown_from c.args.first) c.args.i c.args.n (c.args.n - 1) (let h = c.if-n-eq0.false in omega (arith, h)))
