use Rattle.std.proofs.Common.{rules}
use Rattle.refutation_checker.proofs.MarksLemmas.{mark_none}
use Rattle.refutation_checker.proofs.marks.Marks.new.Goals as goal

pub returns : goal.returns
returns c = mark_none _ _ c.args.near (c.in_ok-vec.ensures.items_if_clones_equal (λ y h. search rules)) c.new.ensures.empty
