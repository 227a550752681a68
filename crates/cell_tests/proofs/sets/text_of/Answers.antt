use Rattle.cell_merge.specs.Sorts.{set_of}
use Rattle.cell_merge.proofs.SortLaws.{OfSort-later}
use Rattle.cell_tests.specs.Kinds.{sort_of}
use Rattle.cell_tests.proofs.sets.text_of.Goals as goal

pub solved-requires-clause-left : goal.solved-requires-clause-left
solved-requires-clause-left c = OfSort-later _ _ (set_of (sort_of c.args.kind)) _ c.in_ok-left.ensures.sort c.in_ok-right.ensures.grows
