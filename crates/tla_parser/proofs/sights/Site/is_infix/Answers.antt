use Rattle.std.proofs.Common.{sym, ap, ◌∙◌}
use Rattle.tla_parser.proofs.Sighted.{took, with_test}
use Rattle.tla_parser.specs.Operators.{after}
use Rattle.tla_parser.specs.Refused.{of_parameters}
use Rattle.tla_parser.proofs.sights.Site.is_infix.Goals as goal

pub returns-in_ok-takes-in-InfixRole : goal.returns-in_ok-takes-in-InfixRole
returns-in_ok-takes-in-InfixRole c =
    with_test c.in_ok-takes-in-InfixRole.takes (sym (c.after.ensures ∙ ap after c.sign_of.ensures) ∙ c.in-InfixRole.is)
    (took of_parameters c.args.self.now.front.now c.as_slice.result.now c.args.self.now.token.now c.in_ok-takes-in-InfixRole.takes (c.as_slice.ensures.value ∙ c.in_ok-parameters-in-InfixRole.ensures) c.in_ok-takes-in-InfixRole.ensures)
