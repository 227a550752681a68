use Rattle.std.proofs.Common.{inl, inr, refl, ◌∙◌}
use Rattle.tla_parser.proofs.Sighted.{no_blank, took}
use Rattle.tla_parser.specs.Refused.{of_parameter}
use Rattle.tla_parser.proofs.sights.Site.blank_parameter.Goals as goal

pub returns-then-branch : goal.returns-then-branch
returns-then-branch c =
    inl (c.requires, refl, (took of_parameter c.args.self.now.front.now c.as_slice.result.now c.args.self.now.token.now c.in_ok-takes.field-0 (c.as_slice.ensures.value ∙ c.in_ok-parameter.ensures) c.in_ok-takes.ensures).yes c.if-branch.true)

pub returns : goal.returns
returns c = λ p s. elim s [
  | inl k ↦ (took of_parameter c.args.self.now.front.now c.as_slice.result.now c.args.self.now.token.now c.in_ok-takes.field-0 (c.as_slice.ensures.value ∙ c.in_ok-parameter.ensures) c.in_ok-takes.ensures).no c.if-branch.false k.2
  | inr k ↦ no_blank c.args.self.now.token.now c.requires k.0
]
