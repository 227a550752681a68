use Rattle.std.proofs.Common.{arith}
use Rattle.cell_arena.specs.Cells.{kind_at}
use Rattle.cell_merge.specs.Composites.{parts_of}
use Rattle.function_rewriter.proofs.Composites.{copied-more}
use Rattle.function_rewriter.proofs.replacing.copy_parts.Goals as goal

pub loop-place-preserved : goal.loop-place-preserved
loop-place-preserved c =
    let n = c.part_count-count.ensures in
    copied-more (parts_of (kind_at c.args.arena.now.kinds c.args.id)) c.loop-place.place c.part_at-part.result _ _ (omega arith) c.loop-place.invariant (c.part_at-part.ensures.part c.part_at-part.result) c.in_ok-push.ensures.items
