use Rattle.std.proofs.Common.{◌≡◌, ◌++◌, map, flat_map, take}
use Rattle.system_texts.specs.inner.Gathered.{tree_texts}
use Rattle.system_texts.proofs.gathering.+trees.Given as goal

abbrev pub invariant-push_trees-loop-tree : goal.invariant-push_trees-loop-tree
invariant-push_trees-loop-tree l =
    map (λ t. t.now) l.out.items ≡ map (λ t. t.now) l.fn.out.items ++ flat_map tree_texts (take l.tree-index l.trees)
