use Rattle.std.proofs.Common.{◌<◌, ◌+◌, ◌-◌, ◌/◌, length, ap, sym, ◌∙◌, arith}
use Rattle.snowcat_types.proofs.HearingSteps.{found}
use Rattle.snowcat_types.proofs.hearing.find.Goals as goal

pub returns-in-Equal : goal.returns-in-Equal
returns-in-Equal c =
    let lt : c.loop-low.low + (c.loop-low.high - c.loop-low.low) / 2 < length c.args.known.now =
    let a = c.loop-low-test.true in let b = c.loop-low.invariant.1 in omega (arith, a, b) in
    found c.args.known.now (c.loop-low.low + (c.loop-low.high - c.loop-low.low) / 2) c.index-known-middle.result c.args.text.now c.bytes.result.now
    c.bytes-in-loop-low.result.now c.cmp.result lt c.index-known-middle.is c.bytes.ensures
    (c.bytes-in-loop-low.ensures ∙ ap (λ z. z.0) (sym c.index-known-middle.is)) c.cmp.ensures c.in-Equal.is
