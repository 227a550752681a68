use Rattle.std.proofs.Common.{◌∙◌, ap, sym}
use Rattle.op_inliner.specs.Answers.{Gives}
use Rattle.std.proofs.lemmas.Result.{err_from_is_err_and}
use Rattle.op_inliner.proofs.ExpandSteps.{invs_begun, invs_end, invs_fail, invs_next}
use Rattle.op_inliner.proofs.expanding.Module.invariants.Goals as goal

pub loop-name-init : goal.loop-name-init
loop-name-init c = invs_begun c.args.self.flat.now c.args.names.now c.new-all.result.items c.new-all.ensures.items

pub loop-name-preserved : goal.loop-name-preserved
loop-name-preserved c =
    invs_next c.args.self.flat.now c.args.names.now c.loop-name.name-index c.name-item.result c.in_ok-name.name c.in_ok-e.e c.loop-name.all.items c.push.new.self.items c.loop-name-test.true c.name-item.is
    c.in_ok-e.ensures c.loop-name.invariant c.in_ok-name.ensures c.in_ok-push.ensures.items

pub returns-in_err-e : goal.returns-in_err-e
returns-in_err-e c =
    let p = err_from_is_err_and c.from_residual.result c.from_residual.ensures.1 in
    rw (p.1, p.2) (invs_fail c.args.self.flat.now c.args.names.now c.loop-name.name-index c.name-item.result c.loop-name.all.items c.in_err-e.field-0.0 c.loop-name-test.true c.name-item.is
    c.in_err-e.ensures c.loop-name.invariant)

pub returns : goal.returns
returns c = invs_end c.args.self.flat.now c.args.names.now c.loop-name.name-index c.loop-name.all.items c.loop-name-test.false c.loop-name.invariant ∙ ap Gives (sym c.from_vec.ensures)
