use Rattle.std.proofs.Common.{ap}
use Rattle.cell_arena.proofs.Growing.{InRange-none}
use Rattle.cell_arena.proofs.build.Build.new.Goals as goal

pub invariant_of-result-clause-ranges : goal.invariant_of-result-clause-ranges
invariant_of-result-clause-ranges c = InRange-none _ _ (ap (λ x. x.kinds) c.in_ok-arena.ensures.same)
