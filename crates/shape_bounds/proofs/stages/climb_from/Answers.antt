use Rattle.std.proofs.Common.{◌≡◌, ◌≤◌, ◌+◌, ◌∙◌, arith, subst, sym}
use Rattle.kernel_shapes.specs.Systems.{system_parts}
use Rattle.shape_bounds.specs.inner.Climbing.{IsAt}
use Rattle.shape_bounds.proofs.LevelSteps.{at_next, at_refused, last_still, still_behind}
use Rattle.shape_bounds.proofs.stages.climb_from.Goals as goal

pub returns-in-Some : goal.returns-in-Some
returns-in-Some c = λ as' cs h.
    let below : c.loop-number.number ≤ c.args.length = let lt = c.loop-number-test.true in omega (arith, lt) in
    at_refused (system_parts c.args.width c.args.system.now) cs as' c.loop-number.number c.args.length c.loop-number.before.items c.loop-number.last c.in_ok-found.found c.fault_at.result c.in-Some.fault below
    (c.loop-number.invariant as' cs h) c.in_ok-found.ensures c.fault_at.ensures c.in-Some.is

pub loop-number-preserved : goal.loop-number-preserved
loop-number-preserved c = λ as' cs h.
    at_next (system_parts c.args.width c.args.system.now) cs as' c.loop-number.number c.loop-number.before.items c.keep.new.made.items c.as_slice.result.now c.loop-number.last c.in_ok-next.next c.in_ok-found.found
    c.fault_at.result (c.loop-number.invariant as' cs h) c.in_ok-found.ensures c.fault_at.ensures c.in_default.is c.as_slice.ensures c.in_ok-next.ensures c.in_ok-keep.ensures

pub returns-then-is_still : goal.returns-then-is_still
returns-then-is_still c = λ as' cs h.
    let at : IsAt (system_parts c.args.width c.args.system.now) cs as' (c.loop-number.number + 1) c.keep.new.made.items c.in_ok-next.next =
    at_next (system_parts c.args.width c.args.system.now) cs as' c.loop-number.number c.loop-number.before.items c.keep.new.made.items c.as_slice.result.now c.loop-number.last c.in_ok-next.next c.in_ok-found.found
    c.fault_at.result (c.loop-number.invariant as' cs h) c.in_ok-found.ensures c.fault_at.ensures c.in_default.is c.as_slice.ensures c.in_ok-next.ensures c.in_ok-keep.ensures in
    let within : c.loop-number.number + 1 ≤ c.args.length = let lt = c.loop-number-test.true in omega (arith, lt) in
    record {
      at = at;
      within = within;
      still = still_behind (system_parts c.args.width c.args.system.now) cs as' c.args.length (c.loop-number.number + 1) c.keep.new.made.items c.as_slice.result.now c.in_ok-next.next
          c.as_slice-in-loop-number.result.now c.as_slice-in-loop-number-2.result.now c.are_same-is_still.result c.in_ok-next.ensures c.as_slice-in-loop-number.ensures
          (c.as_slice-in-loop-number-2.ensures ∙ sym c.as_slice.ensures) c.are_same-is_still.ensures c.if-is_still.true at;
    }

pub returns : goal.returns
returns c = λ as' cs h.
    let all : c.loop-number.number ≡ c.args.length = let lt = c.loop-number-test.false in let le = c.loop-number.auto.number-end in omega (arith, lt, le) in
    let at : IsAt (system_parts c.args.width c.args.system.now) cs as' c.args.length c.loop-number.before.items c.loop-number.last =
    subst (λ n. IsAt (system_parts c.args.width c.args.system.now) cs as' n c.loop-number.before.items c.loop-number.last) all (c.loop-number.invariant as' cs h) in
    record { at = at; within = omega arith; still = last_still (system_parts c.args.width c.args.system.now) cs as' c.args.length c.loop-number.before.items c.loop-number.last at }
