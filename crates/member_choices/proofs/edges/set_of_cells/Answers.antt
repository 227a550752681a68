use Rattle.std.proofs.Common.{◌∙◌}
use Rattle.member_choices.proofs.Collected.{collects, one-sort}
use Rattle.member_choices.proofs.edges.set_of_cells.Goals as goal

pub set_of_joined_edges-requires : goal.set_of_joined_edges-requires
set_of_joined_edges-requires c = one-sort _ _ c.args.cs.now c.args.ids.now _ c.requires (c.as_slice.ensures.value
    ∙ c.in_ok-edges.ensures)

pub returns-clause-collects : goal.returns-clause-collects
returns-clause-collects c =
    collects c.args.b.now _ c.args.cs.now c.args.ids.now _ _ c.requires.count (c.as_slice.ensures.value
    ∙ c.in_ok-edges.ensures) c.in_ok-id.ensures.set
