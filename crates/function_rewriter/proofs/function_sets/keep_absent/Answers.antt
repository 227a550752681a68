use Rattle.std.proofs.Common.{◌∙◌}
use Rattle.cell_merge.proofs.Edges.{negated-value}
use Rattle.function_rewriter.proofs.FunctionListings.{extends-none}
use Rattle.function_rewriter.proofs.function_sets.keep_absent.Goals as goal

pub returns-clause-extends : goal.returns-clause-extends
returns-clause-extends c =
    extends-none _ c.args.edge c.negated-absent.result _ c.args.choices.now _ _ (c.as_slice.ensures.value ∙ c.new-front.ensures.items) c.new-out.ensures.items (λ a. negated-value _ _ a c.negated-absent.ensures) c.in_ok-add_front.ensures.adds
