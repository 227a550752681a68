use Rattle.std.proofs.Common.{ap, ◌∙◌, ◌∷◌, ◌++◌, [], append_assoc, sym, subst, IsTrue}
use Rattle.tla_evaluator.proofs.Words.{arguments, increasing, insert_pair}
use Rattle.tla_values.proofs.SetLaws.{rising_to}
use Rattle.tla_values.proofs.FunLaws.{rising_function}
use Rattle.tla_evaluator.proofs.functions.function_of.Goals as goal

pub put_pair-requires : goal.put_pair-requires
put_pair-requires c =
    let i = c.loop-pair.invariant in subst (λ l. IsTrue (increasing (arguments l))) (sym i.2) (rising_to _ (rising_function i.0))

pub loop-pair-preserved : goal.loop-pair-preserved
loop-pair-preserved c =
    let i = c.loop-pair.invariant in (
      c.in-Some.pair ∷ i.0,
      i.1 ∙ ap (λ l. l ++ i.0) c.in-Some.ensures.items ∙ append_assoc c.pop.new.self.items (c.in-Some.pair ∷ []) i.0,
      c.in_ok-put_pair.ensures ∙ ap (insert_pair c.in-Some.pair) i.2,
    )
