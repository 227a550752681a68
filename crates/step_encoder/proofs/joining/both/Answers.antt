use Rattle.std.proofs.Common.{refl}
use Rattle.cell_arena.proofs.Growing.{Grows-formula}
use Rattle.step_encoder.proofs.joining.both.Goals as goal

pub returns-in_err-ends-clause-grows : goal.returns-in_err-ends-clause-grows
returns-in_err-ends-clause-grows c = Grows-formula _ _ c.behind.ensures.grows refl

pub returns-clause-grows : goal.returns-clause-grows
returns-clause-grows c = Grows-formula _ _ c.behind.ensures.grows refl
