use Rattle.step_encoder.proofs.Conditions.{bounds_at, bounds_for, can_rewrite, told, truth_cells}
use Rattle.step_encoder.proofs.asking.condition_of.Goals as goal

pub rewrite-requires : goal.rewrite-requires
rewrite-requires c =
    can_rewrite c.args.b.now c.args.env.now c.args.now.now c.args.next.now c.args.tree.now c.in_ok-bounded.bounded
    c.width-width.result c.requires
    (bounds_at c.args.now.now c.args.next.now _ c.width-width.result c.args.tree.now c.in_ok-bounded.bounded
    c.new-bound.ensures c.in_ok-bounded.ensures)

pub condition-requires : goal.condition-requires
condition-requires c =
    truth_cells c.args.b.now c.args.env.now c.args.now.now c.args.next.now c.args.tree.now c.in_ok-bounded.bounded
    c.width-width.result c.in_ok-cells.cells c.requires
    (bounds_at c.args.now.now c.args.next.now _ c.width-width.result c.args.tree.now c.in_ok-bounded.bounded
    c.new-bound.ensures c.in_ok-bounded.ensures)
    c.rewrite.new.b c.in_ok-cells.ensures.sort

pub returns-clause-condition : goal.returns-clause-condition
returns-clause-condition c =
    told c.args.b.now c.rewrite.new.b c.condition.new.b c.args.env.now c.args.now.now c.args.next.now c.args.tree.now
    c.in_ok-bounded.bounded c.in_ok-cells.cells c.in_ok-ends.ends
    (record {
      can = c.requires;
      wide = c.args.b.now.built.narrow.0;
      bounds = bounds_for c.args.now.now c.args.next.now c.width-width.result c.args.b.now.arena.width c.args.tree.now
          c.in_ok-bounded.bounded c.width-width.ensures.same
          (bounds_at c.args.now.now c.args.next.now _ c.width-width.result c.args.tree.now c.in_ok-bounded.bounded
          c.new-bound.ensures c.in_ok-bounded.ensures);
      sort = c.in_ok-cells.ensures.sort;
      rewrites = c.in_ok-cells.ensures.rewrites;
      grows = c.in_ok-cells.ensures.grows;
      condition = c.in_ok-ends.ensures.ends;
      arena = c.condition.ensures.arena;
      onto = c.condition.ensures.grows;
    })
