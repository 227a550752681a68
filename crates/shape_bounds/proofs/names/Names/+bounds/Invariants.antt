use Rattle.shape_bounds.proofs.BoundTrees.{AreFirst}
use Rattle.shape_bounds.proofs.names.Names.+bounds.Given as goal

abbrev pub invariant-bounded_each-loop-i : goal.invariant-bounded_each-loop-i
invariant-bounded_each-loop-i l = AreFirst l.fn.self l.self l.k l.stacks l.under l.i l.bounded.items
