use Rattle.std.proofs.Common.{refl}
use Rattle.cell_arena.proofs.Growing.{Grows-trans, Grows-formula}
use Rattle.cell_merge.proofs.Layering.{Chooses-later}
use Rattle.cell_merge.proofs.picking.choose_edge.Goals as goal

pub returns-in_err-there-clause-grows : goal.returns-in_err-there-clause-grows
returns-in_err-there-clause-grows c = Grows-trans _ _ _ c.in_ok-cell.ensures.grows (Grows-formula _ _ c.in_err-there.ensures.grows refl)

pub returns-clause-grows : goal.returns-clause-grows
returns-clause-grows c = Grows-trans _ _ _ c.in_ok-cell.ensures.grows (Grows-formula _ _ c.in_ok-there.ensures.grows refl)

pub returns-clause-chosen : goal.returns-clause-chosen
returns-clause-chosen c = record {
  below = c.in_ok-there.ensures.value.below;
  cell = Chooses-later _ _ _ _ _ _ _ c.in_ok-cell.ensures.chosen (Grows-formula _ _ c.in_ok-there.ensures.grows refl);
  literal = c.in_ok-there.ensures.value.value;
}
