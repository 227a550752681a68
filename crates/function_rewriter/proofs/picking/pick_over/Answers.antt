use Rattle.std.proofs.Common.{refl}
use Rattle.cell_arena.proofs.Growing.{Grows-trans, Grows-formula}
use Rattle.function_rewriter.proofs.FunctionPicks.{picks-over, picked-older}
use Rattle.function_rewriter.proofs.picking.pick_over.Goals as goal

pub returns-in_err-all-clause-grows : goal.returns-in_err-all-clause-grows
returns-in_err-all-clause-grows c = Grows-trans _ _ _ c.in_ok-arrows.ensures.grows (Grows-formula _ _ c.in_err-all.ensures.grows refl)

pub fun-requires-clause-older : goal.fun-requires-clause-older
fun-requires-clause-older c = picked-older c.args.b.now _ c.args.edges.now c.args.set _ _ _ c.requires.edges c.requires.set c.in_ok-arrows.ensures.picks c.from_vec.ensures

pub returns-in_err-id-clause-grows : goal.returns-in_err-id-clause-grows
returns-in_err-id-clause-grows c = Grows-trans _ _ _ (Grows-trans _ _ _ c.in_ok-arrows.ensures.grows (Grows-formula _ _ c.in_ok-all.ensures.grows refl)) c.in_err-id.ensures.grows

pub returns-clause-grows : goal.returns-clause-grows
returns-clause-grows c = Grows-trans _ _ _ (Grows-trans _ _ _ c.in_ok-arrows.ensures.grows (Grows-formula _ _ c.in_ok-all.ensures.grows refl)) c.in_ok-id.ensures.grows

pub returns-clause-picks : goal.returns-clause-picks
returns-clause-picks c =
    picks-over c.args.b.now _ _ c.args.edges.now c.args.set _ _ _ _ _ _ c.in_ok-arrows.ensures.picks c.from_vec.ensures c.in_ok-arrows.ensures.grows (rw c.as_slice.ensures.value at c.in_ok-all.ensures.value)
    c.in_ok-all.ensures.grows _ refl refl c.in_ok-id.ensures.grows c.in_ok-id.ensures.cell c.in_ok-id.ensures.value
