use Rattle.std.proofs.Common.{ap, ◌∙◌, List, ◌++◌}
use Rattle.cell_arena.specs.declared.kinds.CellId.{CellId}
use Rattle.cell_arena.proofs.Growing.{Grows-trans}
use Rattle.set_rewriter.proofs.Powers.{sets-and-edge, subsets-more}
use Rattle.set_rewriter.proofs.powersets.subset_cells.Goals as goal

pub with_each-requires : goal.with_each-requires
with_each-requires c =
    rw c.as_slice.ensures.value (sets-and-edge c.args.b.now c.loop-edge.b c.args.edges.now c.loop-edge.edge-index _ _ c.requires c.loop-edge-test.true c.loop-edge.invariant.grows c.loop-edge.invariant.subsets)

pub loop-edge-preserved : goal.loop-edge-preserved
loop-edge-preserved c =
    let i = c.loop-edge.invariant in
    let r = c.requires.edges in
    record {
      grows = Grows-trans _ _ _ i.grows c.in_ok-more.ensures.grows;
      subsets = subsets-more _ c.loop-edge.b _ c.args.edges.now c.loop-edge.edge-index _ c.loop-edge.cells.items _ _ r.sort c.loop-edge-test.true r.cells i.grows c.in_ok-more.ensures.grows i.subsets
          (rw c.as_slice.ensures.value at c.in_ok-more.ensures.with) (c.in_ok-extend_from_slice.ensures.items ∙ ap (λ (l : List CellId). c.loop-edge.cells.items ++ l) c.as_slice-in-loop-edge.ensures.value);
    }
