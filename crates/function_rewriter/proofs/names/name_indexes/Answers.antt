use Rattle.std.proofs.Common.{arith}
use Rattle.cell_arena.specs.Cells.{kind_at}
use Rattle.function_rewriter.specs.inner.Constants.{names_of}
use Rattle.function_rewriter.proofs.KnownValues.{indexes-none, indexes-push}
use Rattle.function_rewriter.proofs.names.name_indexes.Goals as goal

pub loop-place-init : goal.loop-place-init
loop-place-init c = indexes-none _ (names_of (kind_at c.args.b.now.arena.kinds c.args.r)) _ c.new-indexes.ensures.items

pub loop-place-preserved : goal.loop-place-preserved
loop-place-preserved c =
    let n = c.name_count-count.ensures in
    indexes-push _ _ c.loop-place.place _ _ _ (omega arith) c.loop-place.invariant c.name_index-index.ensures c.in_ok-push.ensures.items
