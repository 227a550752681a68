use Rattle.std.proofs.Common.{◌∙◌, sym}
use Rattle.std.proofs.lemmas.Bool.{eqb-true}
use Rattle.function_rewriter.proofs.Joins.{hides, cell_one}
use Rattle.function_rewriter.proofs.joining.is_hidden.Goals as goal

pub returns-in-Some-true : goal.returns-in-Some-true
returns-in-Some-true c = λ _.
    hides _ _ c.loop-l.l-index _ _ c.loop-l-test.true (λ a s. c.in-Some-true.ensures.value a s ∙ c.in-Some-true.field-0-test) (cell_one _ _ (eqb-true _ _ (sym c.eq.ensures ∙ c.if-eq.true)))
