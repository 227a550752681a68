use Rattle.std.proofs.Common.{option_copied}
use Rattle.kera_reducer.proofs.ExceptSteps.{rests_of}
use Rattle.kera_reducer.proofs.excepts.pairs_of.Goals as goal

pub returns : goal.returns
returns c =
    rests_of c.args.made.now.depth c.args.operands.now (record { ty = c.in_ok-ty.ty; rests = c.in_ok-rests.rests; number = c.in_ok-number.number })
    c.as_slice.result.now c.deref.result.now (option_copied c.first.result) c.as_slice.ensures.value c.in_ok-rests.ensures c.deref.ensures.value
    c.first.ensures.value c.in_ok-ty.ensures c.in_ok-number.ensures
