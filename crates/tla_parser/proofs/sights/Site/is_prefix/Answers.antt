use Rattle.std.proofs.Common.{sym, ap, ◌∙◌}
use Rattle.tla_parser.proofs.Sighted.{took, with_test}
use Rattle.tla_parser.specs.Operators.{is_prefix}
use Rattle.tla_parser.specs.Refused.{of_definition}
use Rattle.tla_parser.proofs.sights.Site.is_prefix.Goals as goal

pub returns : goal.returns
returns c =
    with_test c.in_ok-takes.takes (sym (c.is_prefix.ensures ∙ ap is_prefix c.sign_of.ensures) ∙ c.if-not-is_prefix.false)
    (took of_definition c.args.self.now.front.now c.as_slice.result.now c.args.self.now.token.now c.in_ok-takes.takes (c.as_slice.ensures.value ∙ c.in_ok-definition.ensures) c.in_ok-takes.ensures)
