use Rattle.std.proofs.Common.{◌∙◌, sym}
use Rattle.tla_meaning.proofs.Views.{false≢true}
use Rattle.kernel_reduction.proofs.Counting.{search_found, search_missed, text_hit, text_miss}
use Rattle.kera_reducer.proofs.reducer.Reducer.number_of.Goals.{else-same_text, then-same_text}
use Rattle.kera_reducer.proofs.reducer.Reducer.number_of.Goals as goal

pub loop-i-preserved : goal.loop-i-preserved
loop-i-preserved c = elim c.if-same_text.branch [
  | then-same_text w ↦
      search_found (λ t. t.now) c.args.name.now c.as_slice-names.result.now c.loop-i.i c.index-names-i.result
      c.loop-i-test.true c.index-names-i.is (text_hit _ _ (c.same_text.ensures.0 w.if-same_text.true)) ∙ sym w.found-is
  | else-same_text w ↦
      search_missed (λ t. t.now) c.args.name.now c.as_slice-names.result.now c.loop-i.i c.index-names-i.result
      c.loop-i-test.true c.index-names-i.is c.loop-i.found c.loop-i.invariant (text_miss _ _ (λ q. false≢true (sym w.if-same_text.false ∙ c.same_text.ensures.1 q)))
      ∙ sym w.found-is
]
