use Rattle.cell_merge.specs.Sorts.{set_of}
use Rattle.cell_tests.proofs.MemberSorts.{as-type}
use Rattle.cell_tests.proofs.sets.answer.Goals as goal

pub choose_cell-requires-clause-types : goal.choose_cell-requires-clause-types
choose_cell-requires-clause-types c = as-type _ _ _ c.requires.types

pub two_edges-requires-clause-types : goal.two_edges-requires-clause-types
two_edges-requires-clause-types c = as-type _ _ _ c.requires.types

pub big_union-requires : goal.big_union-requires
big_union-requires c =
    let t = c.requires.types in
    record { sort = t.sort; is = c.in_ok-sets.ensures.sort (set_of t.sort) t.left t.right }
