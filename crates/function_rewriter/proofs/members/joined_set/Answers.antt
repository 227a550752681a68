use Rattle.std.proofs.Common.{refl}
use Rattle.cell_arena.proofs.Growing.{Grows-trans, Grows-formula}
use Rattle.function_rewriter.proofs.FunctionPicks.{joined-older, same-set}
use Rattle.function_rewriter.proofs.members.joined_set.Goals as goal

pub set-requires-clause-older : goal.set-requires-clause-older
set-requires-clause-older c = joined-older c.args.b.now _ c.args.set _ _ c.requires c.in_ok-edges.ensures.joins c.from_vec.ensures

pub returns-in_err-id-clause-grows : goal.returns-in_err-id-clause-grows
returns-in_err-id-clause-grows c = Grows-trans _ _ _ (Grows-formula _ _ c.in_ok-edges.ensures.grows refl) c.in_err-id.ensures.grows

pub returns-clause-same : goal.returns-clause-same
returns-clause-same c = same-set c.args.b.now _ _ _ c.args.set _ _ _ c.requires c.in_ok-edges.ensures.joins c.from_vec.ensures refl refl c.in_ok-id.ensures.grows c.in_ok-id.ensures.cell c.in_ok-id.ensures.value
