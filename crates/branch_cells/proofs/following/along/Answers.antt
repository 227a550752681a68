use Rattle.branch_cells.proofs.Items.{kinds_later}
use Rattle.branch_cells.proofs.following.along.Goals as goal

pub choose-requires : goal.choose-requires
choose-requires g c = (
  rw c.as_slice-list.ensures.value c.in_ok-parts.ensures.whole,
  rw c.as_slice-others.ensures
      (kinds_later c.args.b.now c.follow_each.new.b g.names c.args.way.now.others c.in_ok-parts.ensures.grows
      c.requires.ready.others),
)

pub returns-clause-along : goal.returns-clause-along
returns-clause-along g c = record {
  middle = c.follow_each.new.b;
  parts = c.in_ok-parts.parts.items;
  are = c.in_ok-parts.ensures.parts;
  choice = rw (c.as_slice-list.ensures.value, c.as_slice-others.ensures) at c.in_ok-branch.ensures.choice;
}
