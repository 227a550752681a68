use Rattle.std.proofs.Common.{◌∙◌, sym}
use Rattle.tla_evaluator.proofs.FormLemmas.{and_else, and_then, fields_same}
use Rattle.tla_evaluator.proofs.forms.same_fields.Goals as goal

pub returns-then-all_are_fields : goal.returns-then-all_are_fields
returns-then-all_are_fields c =
    and_then _ _ _ (sym c.all_are_fields.ensures ∙ c.if-all_are_fields.true) c.all_fields_named.ensures ∙ fields_same c.args.pairs.now c.args.names.now

pub returns-else-all_are_fields : goal.returns-else-all_are_fields
returns-else-all_are_fields c = c.if-all_are_fields.false ∙ and_else _ _ (sym c.all_are_fields.ensures ∙ c.if-all_are_fields.false) ∙ fields_same c.args.pairs.now c.args.names.now
