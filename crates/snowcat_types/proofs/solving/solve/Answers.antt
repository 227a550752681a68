use Rattle.std.proofs.Common.{List, map, subst}
use Rattle.snowcat_types.specs.inner.Awaited.{IsBegun}
use Rattle.snowcat_types.specs.inner.Gathered.{system_of_built}
use Rattle.snowcat_types.proofs.GoingOn.{begun, ended, less_none}
use Rattle.snowcat_types.proofs.solving.solve.Goals as goal

pub steps-init : goal.steps-init
steps-init c =
    let P : List _ → Type 0 = λ z. IsBegun (map (λ w. w.now) z) c.in_ok-awaiting.awaiting in
    begun (system_of_built c.args.system.now) (map (λ w. w.now) c.in_ok-waits.waits.items) c.in_ok-awaiting.awaiting c.visit_all.new.subst
    c.in_ok-waits.ensures.visited (subst P c.as_slice.ensures.value c.in_ok-awaiting.ensures)

pub returns-clause-typed : goal.returns-clause-typed
returns-clause-typed c =
    ended (system_of_built c.args.system.now) (map (λ w. w.now) c.as_slice-in-steps.result.now) c.go_on.new.awaiting c.go_on.new.subst
    c.in_ok-go_on.ensures.on.running
    (less_none (map (λ w. w.now) c.as_slice-in-steps.result.now) c.steps.awaiting c.go_on.new.awaiting c.in_ok-go_on.field-0 c.if-branch.false
    c.in_ok-go_on.ensures.on.less)
