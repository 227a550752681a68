use Rattle.std.proofs.Common.{refl}
use Rattle.cell_arena.proofs.Growing.{Grows-trans, Grows-formula}
use Rattle.cell_merge.proofs.Edges.{negated-value}
use Rattle.function_rewriter.proofs.FunctionPicks.{picks-where}
use Rattle.function_rewriter.proofs.picking.pick_where.Goals as goal

pub returns-in_err-there-clause-grows : goal.returns-in_err-there-clause-grows
returns-in_err-there-clause-grows c = Grows-trans _ _ _ c.in_ok-picked.ensures.grows (Grows-formula _ _ c.in_err-there.ensures.grows refl)

pub returns-clause-grows : goal.returns-clause-grows
returns-clause-grows c = Grows-trans _ _ _ c.in_ok-picked.ensures.grows (Grows-formula _ _ c.in_ok-there.ensures.grows refl)

pub returns-clause-picks : goal.returns-clause-picks
returns-clause-picks c =
    let p = rw c.in-Some.is at c.in_ok-picked.ensures.picks in
    picks-where _ _ _ c.args.l _ _ _ c.args.set _ c.requires.below p c.in_ok-picked.ensures.grows refl c.in_ok-there.ensures.grows (λ a. negated-value c.args.l _ a c.negated.ensures) c.in_ok-there.ensures.value
