use Rattle.branch_cells.proofs.Followed.{can_rewrite, has_whole, items_of, part_of}
use Rattle.branch_cells.proofs.Items.{kinds_later}
use Rattle.branch_cells.proofs.following.follow.Goals as goal

pub rewrite_path-requires : goal.rewrite_path-requires
rewrite_path-requires g c =
    can_rewrite c.args.b.now g.names c.args.way.now c.args.path.now c.in_ok-bounded.bounded c.requires.0 c.requires.1
    c.in_ok-bounded.ensures

pub fill-requires : goal.fill-requires
fill-requires g c =
    let made = c.in_ok-cells.ensures in (
      made.cells.below,
      (
        items_of c.args.b.now c.rewrite_path.new.b g.names c.args.way.now c.args.path.now c.in_ok-bounded.bounded
            c.in_ok-cells.cells c.requires.0
            c.requires.1 c.in_ok-bounded.ensures made.sorts,
        (
          rw c.as_slice-others.ensures (kinds_later c.args.b.now c.rewrite_path.new.b g.names c.args.way.now.others
              made.grows c.requires.0.others),
          has_whole c.args.b.now c.rewrite_path.new.b c.args.way.now.env c.in_ok-bounded.bounded.steps
              c.in_ok-cells.cells made.cells,
        ),
      ),
    )

pub returns-clause-part : goal.returns-clause-part
returns-clause-part g c =
    part_of c.args.b.now c.rewrite_path.new.b c.fill.new.b g.names c.args.way.now c.args.path.now c.in_ok-bounded.bounded
    c.in_ok-cells.cells c.in_ok-part.part c.in_ok-bounded.ensures c.in_ok-cells.ensures.cells c.in_ok-cells.ensures.grows
    (rw c.as_slice-others.ensures at c.in_ok-part.ensures.filled) c.in_ok-part.ensures.whole
