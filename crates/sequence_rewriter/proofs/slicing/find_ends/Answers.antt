use Rattle.sat_formula.proofs.Extension.{Grows-trans}
use Rattle.cell_merge.proofs.Names.{IsOver-later}
use Rattle.sequence_rewriter.proofs.Numbers.{index-later}
use Rattle.sequence_rewriter.proofs.slicing.find_ends.Goals as goal

pub index_of-requires-2-clause-over : goal.index_of-requires-2-clause-over
index_of-requires-2-clause-over c = IsOver-later _ _ _ c.requires.over c.in_ok-first.ensures.grows

pub number_less-requires-clause-over : goal.number_less-requires-clause-over
number_less-requires-clause-over c = IsOver-later _ _ _ c.requires.over (Grows-trans _ _ _ c.in_ok-first.ensures.grows c.in_ok-last.ensures.grows)

pub returns-clause-ends : goal.returns-clause-ends
returns-clause-ends c = record {
  first = index-later _ _ _ _ _ _ c.in_ok-first.ensures.index (Grows-trans _ _ _ c.in_ok-last.ensures.grows c.in_ok-empty.ensures.grows);
  last = index-later _ _ _ _ _ _ c.in_ok-last.ensures.index c.in_ok-empty.ensures.grows;
  empty = c.in_ok-empty.ensures.value;
}
