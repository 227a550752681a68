use Rattle.std.proofs.Common.{◌∙◌, sym, refl, [], arith}
use Rattle.std.proofs.lemmas.List.{get_or_default}
use Rattle.function_rewriter.proofs.KnownValues.{text-stands, text-stands-not, both-false}
use Rattle.function_rewriter.proofs.names.index_of.Goals as goal

pub returns-then-same_text-clause-none : goal.returns-then-same_text-clause-none
returns-then-same_text-clause-none c = (
  λ _. text-stands c.args.text.now c.args.texts.now c.loop-i.i c.loop-i-test.true
      (get_or_default c.args.texts.now c.loop-i.i [] c.index-texts-i.result c.loop-i-test.true ∙ sym c.index-texts-i.is ∙ c.same_text.ensures.0 c.if-same_text.true),
  λ _. refl,
)

pub returns-clause-none : goal.returns-clause-none
returns-clause-none c = both-false _ (text-stands-not c.args.text.now c.args.texts.now (λ j lt. c.loop-i.invariant j (omega arith)))
