use Rattle.std.proofs.Common.{refl}
use Rattle.cell_arena.proofs.Growing.{Grows-trans, Grows-formula}
use Rattle.function_rewriter.proofs.FunctionPicks.{picks-function, joined-one, one-later, same-set-cell}
use Rattle.function_rewriter.proofs.picking.pick_function.Goals as goal

pub returns-in_err-set-clause-grows : goal.returns-in_err-set-clause-grows
returns-in_err-set-clause-grows c = Grows-trans _ _ _ (Grows-formula _ _ c.in_ok-edges.ensures.grows refl) c.in_err-set.ensures.grows

pub pick_over-requires-clause-edges : goal.pick_over-requires-clause-edges
pick_over-requires-clause-edges c =
    rw c.as_slice.ensures.value (one-later _ _ _ (joined-one c.args.b.now _ c.args.from _ _ c.requires.domain c.in_ok-edges.ensures.joins refl) c.in_ok-set.ensures.grows)

pub pick_over-requires-clause-set : goal.pick_over-requires-clause-set
pick_over-requires-clause-set c = same-set-cell c.args.b.now _ _ c.args.to _ c.requires.range refl c.in_ok-set.ensures.same

pub returns-in_err-picked-clause-grows : goal.returns-in_err-picked-clause-grows
returns-in_err-picked-clause-grows c = Grows-trans _ _ _ (Grows-trans _ _ _ (Grows-formula _ _ c.in_ok-edges.ensures.grows refl) c.in_ok-set.ensures.grows) c.in_err-picked.ensures.grows

pub returns-clause-grows : goal.returns-clause-grows
returns-clause-grows c = Grows-trans _ _ _ (Grows-trans _ _ _ (Grows-formula _ _ c.in_ok-edges.ensures.grows refl) c.in_ok-set.ensures.grows) c.in_ok-picked.ensures.grows

pub returns-clause-picks : goal.returns-clause-picks
returns-clause-picks c =
    picks-function c.args.b.now _ _ _ _ c.args.from c.args.to _ _ _ _ c.requires c.in_ok-edges.ensures.joins refl refl refl c.in_ok-edges.ensures.grows c.in_ok-set.ensures.same c.in_ok-set.ensures.grows
    (rw c.as_slice.ensures.value at c.in_ok-picked.ensures.picks) c.in_ok-picked.ensures.grows
