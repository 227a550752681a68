use Rattle.std.proofs.Common.{refl}
use Rattle.sat_formula.proofs.Extension.{HasValue-later}
use Rattle.cell_arena.proofs.Growing.{Grows-trans, Grows-formula}
use Rattle.sequence_rewriter.proofs.domains.counted_edge.Goals as goal

pub returns-in_err-id-clause-grows : goal.returns-in_err-id-clause-grows
returns-in_err-id-clause-grows c = Grows-trans _ _ _ (Grows-formula _ _ c.in_ok-above.ensures.grows refl) c.in_err-id.ensures.grows

pub returns-clause-grows : goal.returns-clause-grows
returns-clause-grows c = Grows-trans _ _ _ (Grows-formula _ _ c.in_ok-above.ensures.grows refl) c.in_ok-id.ensures.grows

pub returns-clause-edge : goal.returns-clause-edge
returns-clause-edge c = record {
  there = HasValue-later _ _ _ _ c.in_ok-above.ensures.value c.in_ok-id.ensures.grows.formula;
  cell = c.in_ok-id.ensures.number;
}
