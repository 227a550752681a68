use Rattle.std.proofs.Common.{◌<◌, length, rules}
use Rattle.snowcat_types.specs.inner.Gathered.{system_of_built}
use Rattle.snowcat_types.proofs.GoingOn.{chosen_below, chosen_due, chosen_inside, chosen_on, chosen_refused}
use Rattle.snowcat_types.proofs.solving.go_on.Goals as goal

pub offset_bounds-waits-node : goal.offset_bounds-waits-node
offset_bounds-waits-node c =
    let lt : c.in-Some.node < length c.args.waits.now =
    chosen_below (λ w. w.now) c.args.waits.now c.args.subst.now c.args.awaiting.now c.next.new.self c.in_ok-node.field-0 c.in-Some.node
    c.in-Some.kind c.in-Some.is c.in_ok-node.ensures in
    search rules

pub bounds-waits-node : goal.bounds-waits-node
bounds-waits-node c =
    chosen_below (λ w. w.now) c.args.waits.now c.args.subst.now c.args.awaiting.now c.next.new.self c.in_ok-node.field-0 c.in-Some.node
    c.in-Some.kind c.in-Some.is c.in_ok-node.ensures

pub choose-requires-clause-within : goal.choose-requires-clause-within
choose-requires-clause-within c =
    chosen_inside (λ w. w.now) c.args.waits.now c.args.subst.now c.args.awaiting.now c.next.new.self c.in_ok-node.field-0 c.in-Some.node
    c.in-Some.kind c.in-Some.is c.in_ok-node.ensures c.index-waits-node.result c.index-waits-node.is (system_of_built c.args.system.now)
    c.requires.reached

pub choose-requires-clause-due : goal.choose-requires-clause-due
choose-requires-clause-due c =
    chosen_due (λ w. w.now) c.args.waits.now c.args.subst.now c.args.awaiting.now c.next.new.self c.in_ok-node.field-0 c.in-Some.node
    c.in-Some.kind c.in-Some.is c.in_ok-node.ensures c.index-waits-node.result c.index-waits-node.is (system_of_built c.args.system.now)
    c.requires.reached

pub returns-in_ok-release_from-in-Ok-clause-on : goal.returns-in_ok-release_from-in-Ok-clause-on
returns-in_ok-release_from-in-Ok-clause-on c =
    chosen_on (λ w. w.now) c.args.waits.now c.args.subst.now c.args.awaiting.now c.next.new.self c.in_ok-node.field-0 c.in-Some.node
    c.in-Some.kind c.in-Some.is c.in_ok-node.ensures c.index-waits-node.result c.index-waits-node.is (system_of_built c.args.system.now)
    c.requires.reached c.choose.new.subst c.release_from.new.self c.in-Ok.ensures.tried c.in-Ok.ensures.kept c.bound-mark.result
    c.bound-mark.ensures c.in_ok-release_from-in-Ok.ensures

pub returns-in-Err-clause-fault : goal.returns-in-Err-clause-fault
returns-in-Err-clause-fault c =
    chosen_refused (λ w. w.now) c.args.waits.now c.args.subst.now c.args.awaiting.now c.next.new.self c.in_ok-node.field-0 c.in-Some.node
    c.in-Some.kind c.in-Some.is c.in_ok-node.ensures c.index-waits-node.result c.index-waits-node.is (system_of_built c.args.system.now)
    c.requires.reached c.choose.new.subst c.in-Err.fault c.clash_at.result c.place_of.result c.defaults.result.now c.in-Err.ensures.tried
    c.in-Err.ensures.names c.place_of.ensures c.defaults.ensures c.clash_at.ensures
