use Rattle.trace_decoder.proofs.FirstPairs.{one_found, one_new, rising_done}
use Rattle.trace_decoder.proofs.functions.function_of.Goals as goal

pub find_argument-requires : goal.find_argument-requires
find_argument-requires c =
    let i = c.loop-argument.invariant in
    rising_done c.loop-argument.function.items c.as_slice.result.now i.0 c.as_slice.ensures.value i.2

pub loop-argument-preserved-in-Ok : goal.loop-argument-preserved-in-Ok
loop-argument-preserved-in-Ok c =
    let i = c.loop-argument.invariant in
    one_found c.args.pairs.items c.loop-argument.rest.items c.pop.new.self.items i.0 c.loop-argument.function.items c.as_slice.result.now
    (c.in-Some.argument, c.in-Some.value) c.in-Ok.place i.1 c.in-Some.ensures.items i.2 c.as_slice.ensures.value
    c.replace.new.pairs.items c.in-Ok.ensures.bound c.in-Ok.ensures.place c.replace.ensures

pub loop-argument-preserved : goal.loop-argument-preserved
loop-argument-preserved c =
    let i = c.loop-argument.invariant in
    one_new c.args.pairs.items c.loop-argument.rest.items c.pop.new.self.items i.0 c.loop-argument.function.items c.as_slice.result.now
    (c.in-Some.argument, c.in-Some.value) c.in-Err.place i.1 c.in-Some.ensures.items i.2 c.as_slice.ensures.value
    c.insert.new.self.items c.in-Err.ensures.bound c.in-Err.ensures.place c.in_ok-insert-in-Err.ensures.items
