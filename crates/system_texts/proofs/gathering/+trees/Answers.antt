use Rattle.std.proofs.Common.{map}
use Rattle.system_texts.proofs.AllTexts.{of_tree}
use Rattle.system_texts.proofs.gathering.+trees.Goals as goal

pub push_tree-returns : goal.push_tree-returns
push_tree-returns t c =
    of_tree c.args.tree.now c.as_slice.result.now (map (λ t. t.now) c.args.out.now.items) (map (λ t. t.now) c.push_constant.new.out.items)
    (map (λ t. t.now) c.push_type.new.out.items) (map (λ t. t.now) c.push_trees.new.out.items)
    c.as_slice.ensures c.in_ok-push_constant.ensures c.in_ok-push_type.ensures c.in_ok-push_trees.ensures
