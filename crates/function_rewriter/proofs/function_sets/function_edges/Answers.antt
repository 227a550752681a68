use Rattle.std.proofs.Common.{◌∙◌, arith}
use Rattle.cell_arena.proofs.Growing.{Grows-refl, Grows-trans}
use Rattle.function_rewriter.proofs.FunctionListings.{edges-none, edges-more, edges-all, choice-older, choice-named}
use Rattle.function_rewriter.proofs.function_sets.function_edges.Goals as goal

pub loop-choice-init : goal.loop-choice-init
loop-choice-init c = record { grows = Grows-refl _; edges = edges-none _ c.args.choices.now _ c.new-edges.ensures.items }

pub fun-requires : goal.fun-requires
fun-requires c =
    let i = c.loop-choice.invariant in
    let is = c.in_ok-arrows.ensures.items ∙ c.as_slice.ensures in
    record {
      named = choice-named _ _ c.args.choices.now c.loop-choice.choice-index c.choice-item.result _ _ c.requires c.loop-choice-test.true i.grows c.choice-item.is is c.from_vec.ensures;
      older = choice-older _ _ c.args.choices.now c.loop-choice.choice-index c.choice-item.result _ _ c.requires c.loop-choice-test.true i.grows c.choice-item.is is c.from_vec.ensures;
    }

pub loop-choice-preserved : goal.loop-choice-preserved
loop-choice-preserved c =
    let i = c.loop-choice.invariant in
    record {
      grows = Grows-trans _ _ _ i.grows c.in_ok-id.ensures.grows;
      edges = edges-more c.args.b.now _ _ c.args.choices.now c.loop-choice.choice-index c.choice-item.result c.choice-item.is _ _ _ _ _ c.requires c.loop-choice-test.true i.grows c.in_ok-id.ensures.grows i.edges
          (c.in_ok-arrows.ensures.items ∙ c.as_slice.ensures) c.from_vec.ensures c.in_ok-id.ensures.cell c.in_ok-id.ensures.value c.in_ok-push.ensures.items;
    }

pub returns-clause-edges : goal.returns-clause-edges
returns-clause-edges c = edges-all _ _ c.args.choices.now c.loop-choice.choice-index _ (omega arith) c.loop-choice.invariant.edges
