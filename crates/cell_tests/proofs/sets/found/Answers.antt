use Rattle.cell_merge.specs.Sorts.{set_of}
use Rattle.cell_merge.proofs.SortLaws.{OfSort-later}
use Rattle.cell_tests.specs.Kinds.{sort_of}
use Rattle.cell_tests.proofs.sets.found.Goals as goal

pub member-requires : goal.member-requires
member-requires c = record {
  sort = sort_of c.args.kind;
  left = c.in_ok-k.ensures.sort;
  right = OfSort-later _ _ (set_of (sort_of c.args.kind)) _ c.requires.sort c.in_ok-k.ensures.grows;
}
