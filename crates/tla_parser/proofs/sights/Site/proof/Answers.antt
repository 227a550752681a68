use Rattle.std.proofs.Common.{refl, ◌∙◌}
use Rattle.tla_parser.proofs.Sighted.{took}
use Rattle.tla_parser.specs.Refused.{of_unit}
use Rattle.tla_parser.proofs.sights.Site.proof.Goals as goal

pub returns-then-branch : goal.returns-then-branch
returns-then-branch c =
    (c.requires, refl, (took of_unit c.args.self.now.front.now c.as_slice.result.now c.args.self.now.token.now c.in_ok-takes.field-0 (c.as_slice.ensures.value ∙ c.in_ok-unit.ensures) c.in_ok-takes.ensures).yes c.if-branch.true)

pub returns : goal.returns
returns c = λ p s. (took of_unit c.args.self.now.front.now c.as_slice.result.now c.args.self.now.token.now c.in_ok-takes.field-0 (c.as_slice.ensures.value ∙ c.in_ok-unit.ensures) c.in_ok-takes.ensures).no c.if-branch.false s.2
