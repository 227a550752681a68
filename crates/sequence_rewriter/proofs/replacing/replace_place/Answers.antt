use Rattle.std.proofs.Common.{refl}
use Rattle.cell_arena.proofs.Growing.{Grows-trans, Grows-formula}
use Rattle.sequence_rewriter.proofs.Bits.{item-types, replaces-place}
use Rattle.sequence_rewriter.proofs.replacing.replace_place.Goals as goal

pub choose_cell-requires-clause-types : goal.choose_cell-requires-clause-types
choose_cell-requires-clause-types c = item-types c.args.b.now.arena.kinds c.args.s c.args.v _ c.args.place c.requires.types c.requires.within (c.part_at-part.ensures.part c.part_at-part.result)

pub returns-in_err-cell-clause-grows : goal.returns-in_err-cell-clause-grows
returns-in_err-cell-clause-grows c = Grows-trans _ _ _ (Grows-formula _ _ c.in_ok-hit.ensures.grows refl) c.in_err-cell.ensures.grows

pub returns-clause-grows : goal.returns-clause-grows
returns-clause-grows c = Grows-trans _ _ _ (Grows-formula _ _ c.in_ok-hit.ensures.grows refl) c.in_ok-cell.ensures.grows

pub returns-clause-replaces : goal.returns-clause-replaces
returns-clause-replaces c =
    replaces-place c.args.b.now _ _ c.args.index.now _ _ _ _ _ c.args.place c.requires.types c.requires.within refl c.in_ok-hit.ensures.value c.part_at-part.ensures.part c.in_ok-cell.ensures.grows c.in_ok-cell.ensures.chosen
