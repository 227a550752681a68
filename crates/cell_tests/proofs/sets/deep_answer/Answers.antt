use Rattle.cell_merge.specs.Sorts.{set_of}
use Rattle.cell_merge.proofs.SortLaws.{OfSort-later}
use Rattle.cell_tests.proofs.sets.deep_answer.Goals as goal

pub subsets-requires : goal.subsets-requires
subsets-requires c = record { sort = c.requires.types.sort; is = c.requires.types.left }

pub subsets-requires-2 : goal.subsets-requires-2
subsets-requires-2 c = record { sort = c.requires.types.sort; is = OfSort-later _ _ (set_of c.requires.types.sort) _ c.requires.types.right c.in_ok-left.ensures.grows }

pub answer-requires-clause-types : goal.answer-requires-clause-types
answer-requires-clause-types c =
    let t = c.requires.types in
    record {
      sort = set_of t.sort;
      left = OfSort-later _ _ (set_of (set_of t.sort)) _ (c.in_ok-left.ensures.powerset.sort t.sort t.left) c.in_ok-right.ensures.grows;
      right = c.in_ok-right.ensures.powerset.sort t.sort (OfSort-later _ _ (set_of t.sort) _ t.right c.in_ok-left.ensures.grows);
    }
