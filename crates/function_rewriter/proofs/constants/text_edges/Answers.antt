use Rattle.std.proofs.Common.{length, ap, arith}
use Rattle.cell_arena.proofs.Growing.{Grows-refl, Grows-trans}
use Rattle.function_rewriter.proofs.KnownValues.{constants-none, texts-turn, texts-later, texts-all}
use Rattle.function_rewriter.proofs.constants.text_edges.Goals as goal

pub text_cell-requires : goal.text_cell-requires
text_cell-requires c =
    let p = c.requires c.loop-index.index-index 0 c.loop-index-test.true in
    let e = ap length (texts-later _ _ c.loop-index.invariant.grows) in
    omega arith

pub loop-index-init : goal.loop-index-init
loop-index-init c = record { grows = Grows-refl _; edges = constants-none _ _ _ c.new-edges.ensures.items }

pub loop-index-preserved : goal.loop-index-preserved
loop-index-preserved c =
    let i = c.loop-index.invariant in
    record {
      grows = Grows-trans _ _ _ i.grows c.in_ok-id.ensures.grows;
      edges = texts-turn c.args.b.now _ _ _ _ c.top-top.result _ i.grows c.in_ok-id.ensures.grows c.top-top.ensures.below c.top-top.ensures.forced c.in_ok-push.ensures.items
          c.args.indexes.now c.loop-index.index-index 0 c.loop-index-test.true i.edges c.in_ok-id.ensures.text;
    }

pub returns-clause-edges : goal.returns-clause-edges
returns-clause-edges c = texts-all _ _ c.args.indexes.now c.loop-index.index-index _ (omega arith) c.loop-index.invariant.edges
