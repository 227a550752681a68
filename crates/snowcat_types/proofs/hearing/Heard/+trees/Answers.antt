use Rattle.std.proofs.Common.{arith}
use Rattle.snowcat_rows.specs.Views.{known_by}
use Rattle.snowcat_types.proofs.HearingSteps.{tree_heard, trees_done, trees_heard}
use Rattle.snowcat_types.proofs.hearing.Heard.+trees.Goals as goal

pub hear_tree-returns : goal.hear_tree-returns
hear_tree-returns t c =
    tree_heard (known_by c.args.aliases.now) c.args.self.now c.hear_node.new.self c.hear_trees.new.self c.args.e.now c.as_slice.result.now
    c.as_slice.ensures
    c.in_ok-hear_node.ensures c.in_ok-hear_trees.ensures

pub hear_trees-loop-e-preserved : goal.hear_trees-loop-e-preserved
hear_trees-loop-e-preserved t c =
    trees_heard (known_by c.args.aliases.now) c.args.self.now c.loop-e.self c.hear_tree.new.self c.args.trees.now c.loop-e.e-index c.e-item.result
    c.loop-e-test.true c.e-item.is c.loop-e.invariant c.in_ok-hear_tree.ensures

pub hear_trees-returns : goal.hear_trees-returns
hear_trees-returns t c =
    trees_done (known_by c.args.aliases.now) c.args.self.now c.loop-e.self c.args.trees.now c.loop-e.e-index
    (let h = c.loop-e-test.false in omega (arith, h)) c.loop-e.invariant
