use Rattle.std.proofs.Common.{refl, arith}
use Rattle.std.proofs.lemmas.List.{get_or_default}
use Rattle.cell_arena.proofs.Growing.{Grows-trans, Grows-formula}
use Rattle.sequence_rewriter.proofs.Fronts.{front-past, front-chosen}
use Rattle.sequence_rewriter.proofs.gluing.front_cell.Goals as goal

pub returns-then-place-xs-clause-front : goal.returns-then-place-xs-clause-front
returns-then-place-xs-clause-front c = front-past _ _ c.args.xs.now c.args.y c.args.place c.requires.types c.if-place-xs.true

pub choose_cell-requires-clause-types : goal.choose_cell-requires-clause-types
choose_cell-requires-clause-types c = record { sort = c.requires.types.sort; left = c.requires.types.list c.args.place _ (let h = c.if-place-xs.false in omega arith); right = c.requires.types.cell }

pub returns-in_err-cell-clause-grows : goal.returns-in_err-cell-clause-grows
returns-in_err-cell-clause-grows c = Grows-trans _ _ _ (Grows-formula _ _ c.in_ok-above.ensures.grows refl) c.in_err-cell.ensures.grows

pub returns-clause-grows : goal.returns-clause-grows
returns-clause-grows c = Grows-trans _ _ _ (Grows-formula _ _ c.in_ok-above.ensures.grows refl) c.in_ok-cell.ensures.grows

pub returns-clause-front : goal.returns-clause-front
returns-clause-front c =
    front-chosen c.args.b.now _ _ c.args.bits.now c.args.xs.now _ c.args.y _ c.args.place _ (let h = c.if-place-xs.false in omega arith) refl (get_or_default c.args.xs.now c.args.place _ _ (let h = c.if-place-xs.false in omega arith))
    c.in_ok-above.ensures.value c.in_ok-cell.ensures.grows c.in_ok-cell.ensures.chosen
