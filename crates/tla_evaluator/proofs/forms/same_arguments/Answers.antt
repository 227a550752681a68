use Rattle.std.proofs.Common.{◌∙◌, sym}
use Rattle.tla_evaluator.proofs.FormLemmas.{and_else, and_then, arguments_same}
use Rattle.tla_evaluator.proofs.forms.same_arguments.Goals as goal

pub returns-then-all_are_arguments : goal.returns-then-all_are_arguments
returns-then-all_are_arguments c =
    and_then _ _ _ (sym c.all_are_arguments.ensures ∙ c.if-all_are_arguments.true) c.all_arguments_among.ensures ∙ arguments_same c.args.pairs.now c.args.items.now

pub returns-else-all_are_arguments : goal.returns-else-all_are_arguments
returns-else-all_are_arguments c = c.if-all_are_arguments.false ∙ and_else _ _ (sym c.all_are_arguments.ensures ∙ c.if-all_are_arguments.false) ∙ arguments_same c.args.pairs.now c.args.items.now
