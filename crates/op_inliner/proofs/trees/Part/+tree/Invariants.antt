use Rattle.std.proofs.Common.{◌≡◌, ◌+◌, ◌*◌, [], take}
use Rattle.tla_meaning.specs.declared.expr.Expr.{out-Expr}
use Rattle.op_inliner.specs.Primes.{kept_trees, turned_trees}
use Rattle.op_inliner.specs.inner.Building.{turned_at}
use Rattle.op_inliner.specs.inner.Frames.{names_at}
use Rattle.op_inliner.proofs.trees.Part.+tree.Given as goal

abbrev pub decreases-tree : goal.decreases-tree
decreases-tree l = 8 * l.left + 7

abbrev pub decreases-rooted : goal.decreases-rooted
decreases-rooted l = 8 * l.left + 6

abbrev pub decreases-kept : goal.decreases-kept
decreases-kept l = 8 * l.left + 5

abbrev pub decreases-boxed : goal.decreases-boxed
decreases-boxed l = 8 * l.left + 3

abbrev pub decreases-angled : goal.decreases-angled
decreases-angled l = 8 * l.left + 3

abbrev pub decreases-changed : goal.decreases-changed
decreases-changed l = 8 * l.left + 7

abbrev pub decreases-node : goal.decreases-node
decreases-node l = 8 * l.left + 2

abbrev pub decreases-children : goal.decreases-children
decreases-children l = 8 * l.left + 8

abbrev pub decreases-equation : goal.decreases-equation
decreases-equation l = 8 * l.left + 3

abbrev pub decreases-kept_tuple : goal.decreases-kept_tuple
decreases-kept_tuple l = 8 * l.left + 3

abbrev pub decreases-kept_items : goal.decreases-kept_items
decreases-kept_items l = 8 * l.left + 6

abbrev pub invariant-children-loop-i : goal.invariant-children-loop-i
invariant-children-loop-i l = record {
  frames : l.frames.items ≡ l.fn.frames.items;
  built : l.all.items ≡ turned_trees (turned_at l.self l.node.marks.items (take l.i (out-Expr l.node.outer.e.now).args)
      (names_at l.fn.frames.items l.node.outer.scope) (names_at l.fn.frames.items l.node.inner.scope) l.node.outer.level) l.node.outer.primes;
}

abbrev pub invariant-kept_items-loop-item : goal.invariant-kept_items-loop-item
invariant-kept_items-loop-item l = record {
  frames : l.frames.items ≡ l.fn.frames.items;
  built : l.all.items ≡ kept_trees (turned_at l.self [] (take l.item-index (out-Expr l.tuple.e.now).args)
      (names_at l.fn.frames.items l.tuple.scope) (names_at l.fn.frames.items l.tuple.scope) l.tuple.level) l.place l.tuple.primes;
}
