use Rattle.std.proofs.Common.{refl}
use Rattle.cell_arena.proofs.Growing.{Grows-formula}
use Rattle.step_encoder.proofs.joining.judged_in.Goals as goal

pub returns-in_err-literals-clause-grows : goal.returns-in_err-literals-clause-grows
returns-in_err-literals-clause-grows c = Grows-formula _ _ c.judged_with.ensures.grows refl

pub returns-clause-grows : goal.returns-clause-grows
returns-clause-grows c = Grows-formula _ _ c.judged_with.ensures.grows refl
