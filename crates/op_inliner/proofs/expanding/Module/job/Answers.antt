use Rattle.std.proofs.lemmas.Result.{err_from_is_err_and}
use Rattle.op_inliner.proofs.ExpandSteps.{invs_refused}
use Rattle.op_inliner.proofs.expanding.Module.job.Goals as goal

pub returns-in_err-invs : goal.returns-in_err-invs
returns-in_err-invs c =
    let p = err_from_is_err_and c.from_residual-in_err-invs.result c.from_residual-in_err-invs.ensures.1 in
    rw (p.1, p.2) (invs_refused c.args.self.flat.now c.args.names.init.now c.args.names.next.now c.args.names.cinit.now c.args.names.invs.now c.in_ok-cinit.cinit c.in_ok-assume.assume c.in_ok-init.init c.in_ok-next.next
    c.in_err-invs.field-0.0 c.in_ok-cinit.ensures c.in_ok-assume.ensures c.in_ok-init.ensures c.in_ok-next.ensures c.in_err-invs.ensures)
