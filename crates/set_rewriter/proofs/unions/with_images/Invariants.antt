use Rattle.std.proofs.Common.{◌≡◌, take}
use Rattle.set_rewriter.specs.Edges.{image_edges}
use Rattle.set_rewriter.proofs.unions.with_images.Given as goal

abbrev pub invariant-loop-i : goal.invariant-loop-i
invariant-loop-i l = l.out.items ≡ image_edges (take l.i l.edges) (take l.i l.images)
