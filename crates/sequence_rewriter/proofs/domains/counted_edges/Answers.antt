use Rattle.cell_arena.proofs.Growing.{Grows-refl, Grows-trans}
use Rattle.word_blaster.proofs.Words.{WordBelow-later}
use Rattle.sequence_rewriter.proofs.Counted.{counted-none, counted-more}
use Rattle.sequence_rewriter.proofs.domains.counted_edges.Goals as goal

pub loop-p-init : goal.loop-p-init
loop-p-init c = record { grows = Grows-refl _; edges = counted-none _ _ _ c.new-edges.ensures.items }

pub counted_edge-requires-clause-below : goal.counted_edge-requires-clause-below
counted_edge-requires-clause-below c = WordBelow-later _ _ c.args.bits.now c.requires c.loop-p.invariant.grows.formula.vars

pub loop-p-preserved : goal.loop-p-preserved
loop-p-preserved c =
    let i = c.loop-p.invariant in
    record {
      grows = Grows-trans _ _ _ i.grows c.in_ok-edge.ensures.grows;
      edges = counted-more _ _ c.args.bits.now c.loop-p.p _ _ _ i.edges c.in_ok-edge.ensures.grows c.in_ok-edge.ensures.edge c.in_ok-push.ensures.items;
    }
