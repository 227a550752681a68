use Rattle.std.proofs.Common.{◌≡◌, take}
use Rattle.cell_arena.specs.Growth.{Grows}
use Rattle.expr_rewriter.specs.inner.Folding.{FoldsOver, items_of_cell}
use Rattle.expr_rewriter.specs.inner.Forming.{AreFormTrees}
use Rattle.expr_rewriter.specs.inner.Parts.{AreTrees}
use Rattle.expr_rewriter.proofs.Turns.{FrontBodies}
use Rattle.expr_rewriter.proofs.rewriting.+tree.Given as goal

abbrev pub invariant-trees-loop-i : goal.invariant-trees-loop-i
invariant-trees-loop-i l = record {
  grows : Grows l.fn.b l.b;
  stays : l.names ≡ l.fn.names;
  made : AreTrees l.b l.fn.names (take l.i l.es) l.parts.items;
}

abbrev pub invariant-bodies-loop-i : goal.invariant-bodies-loop-i
invariant-bodies-loop-i l = record {
  grows : Grows l.fn.b l.b;
  stays : l.names ≡ l.fn.names;
  made : FrontBodies l.b l.fn.names l.numbers l.e l.cs l.i l.parts.items;
}

abbrev pub invariant-steps-loop-i : goal.invariant-steps-loop-i
invariant-steps-loop-i l = record {
  grows : Grows l.fn.b l.b;
  stays : l.names ≡ l.fn.names;
  made : FoldsOver (λ a. take l.i (items_of_cell l.fn.b.arena l.seq a)) l.fn.b l.b l.fn.names l.e l.fn.first l.so_far;
}

abbrev pub invariant-forms-loop-i : goal.invariant-forms-loop-i
invariant-forms-loop-i l = record {
  grows : Grows l.fn.b l.b;
  stays : l.names ≡ l.fn.names;
  made : AreFormTrees l.b l.fn.names (take l.i l.es) l.parts.items;
}
