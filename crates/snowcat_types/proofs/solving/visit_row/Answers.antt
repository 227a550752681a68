use Rattle.snowcat_types.specs.inner.Gathered.{requirements_of}
use Rattle.snowcat_types.proofs.Faulting.{row_failed, row_met}
use Rattle.snowcat_types.proofs.solving.visit_row.Goals as goal

pub returns-in-Ok : goal.returns-in-Ok
returns-in-Ok c = λ ws system front back is v.
    row_met system front back ws c.args.subst.now c.ask_all.new.subst v c.args.place (requirements_of c.args.asked.now) is
    (λ a. c.in-Ok.ensures.tried system.count v.fitting.fronts v.done c.args.place v.solved v.are a)

pub returns-in-Err : goal.returns-in-Err
returns-in-Err c = λ ws system front back is v.
    row_failed system front back ws c.args.subst.now c.ask_all.new.subst v c.args.place (requirements_of c.args.asked.now) c.in-Err.fault
    c.clash_at.result is (λ a. c.in-Err.ensures.tried system.count v.fitting.fronts v.done c.args.place v.solved v.are a)
    c.in-Err.ensures.names c.clash_at.ensures
