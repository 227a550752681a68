use Rattle.std.proofs.Common.{◌≡◌, ◌∙◌, subst, arith}
use Rattle.kernel_shapes.specs.Systems.{system_parts}
use Rattle.shape_bounds.specs.inner.Climbing.{IsClimb, IsReached}
use Rattle.shape_bounds.proofs.LevelSteps.{at_end, at_filled, at_refused}
use Rattle.shape_bounds.proofs.stages.levels_from.Goals as goal

pub returns-in-Some : goal.returns-in-Some
returns-in-Some c = λ as' cs h.
    let p = system_parts c.args.width c.args.system.now in
    let r : IsReached p cs as' c.args.length c.in_ok-made.field-0 = subst (λ x. IsClimb p cs as' c.args.length x) c.in_ok-made.was (c.climb_from.ensures as' cs h) in
    at_refused p cs as' c.in_ok-made.field-0.number c.args.length c.in_ok-made.field-0.before.items c.in_ok-made.field-0.last c.in_ok-excess.excess c.fault_at.result c.in-Some.fault r.within r.at
    c.in_ok-excess.ensures c.fault_at.ensures c.in-Some.is

pub loop-init : goal.loop-init
loop-init c = λ as' cs h.
    let p = system_parts c.args.width c.args.system.now in
    let r : IsReached p cs as' c.args.length c.in_ok-made.field-0 = subst (λ x. IsClimb p cs as' c.args.length x) c.in_ok-made.was (c.climb_from.ensures as' cs h) in
    r.at

pub loop-preserved : goal.loop-preserved
loop-preserved c = λ as' cs h.
    let p = system_parts c.args.width c.args.system.now in
    let r : IsReached p cs as' c.args.length c.in_ok-made.field-0 = subst (λ x. IsClimb p cs as' c.args.length x) c.in_ok-made.was (c.climb_from.ensures as' cs h) in
    at_filled p cs as' c.in_ok-made.field-0.number c.loop.counter c.args.length c.loop.made.items c.keep.new.made.items c.in_ok-copies.copies c.in_ok-made.field-0.last c.in_ok-excess.excess c.fault_at.result
    c.loop.auto.counter c.loop-test.true r.still (c.loop.invariant as' cs h) c.in_ok-excess.ensures c.fault_at.ensures c.in_default.is (c.in_ok-copies.ensures ∙ c.as_slice.ensures) c.in_ok-keep.ensures

pub returns : goal.returns
returns c = λ as' cs h.
    let p = system_parts c.args.width c.args.system.now in
    let r : IsReached p cs as' c.args.length c.in_ok-made.field-0 = subst (λ x. IsClimb p cs as' c.args.length x) c.in_ok-made.was (c.climb_from.ensures as' cs h) in
    let all : c.loop.counter ≡ c.args.length = let lt = c.loop-test.false in let le = c.loop.auto.counter-end in let w = r.within in omega (arith, lt, le, w) in
    at_end p cs as' c.in_ok-made.field-0.number c.loop.counter c.args.length c.loop.made.items c.keep-2.new.made.items c.in_ok-made.field-0.last (record { levels = c.from_vec.result }) c.in_ok-excess.excess
    c.fault_at.result all (c.loop.invariant as' cs h) c.in_ok-excess.ensures c.fault_at.ensures c.in_default.is c.in_ok-keep-2.ensures c.from_vec.ensures
