use Rattle.std.proofs.Common.{inl, inr, refl, sym, ◌∙◌}
use Rattle.tla_parser.proofs.Sighted.{constants_tell, has_sign, no_blank, took}
use Rattle.tla_parser.specs.Refused.{of_last_parameter}
use Rattle.tla_parser.specs.declared.signs.Sign.TheVariants.{Underscore}
use Rattle.tla_parser.proofs.sights.Site.blank_behind.Goals as goal

pub returns-then-ends_in_constants : goal.returns-then-ends_in_constants
returns-then-ends_in_constants c =
    inr (
      c.requires,
      (c.in-Some.blank.now, c.in-Some.field-0-1.now, c.in-Some.ensures.cases.0, has_sign Underscore c.sign_of.result c.is.result c.in-Some.blank.now c.sign_of.ensures c.is.ensures c.if-not-is.false, refl),
      inr ((constants_tell c.args.self.now.front.now).yes (sym c.ends_in_constants.ensures ∙ c.if-ends_in_constants.true)),
    )

pub returns-then-branch : goal.returns-then-branch
returns-then-branch c =
    inr (
      c.requires,
      (c.in-Some.blank.now, c.in-Some.field-0-1.now, c.in-Some.ensures.cases.0, has_sign Underscore c.sign_of.result c.is.result c.in-Some.blank.now c.sign_of.ensures c.is.ensures c.if-not-is.false, refl),
      inl ((took of_last_parameter c.args.self.now.front.now c.as_slice.result.now c.args.self.now.token.now c.in_ok-takes.field-0 (c.as_slice.ensures.value ∙ c.in_ok-last.ensures) c.in_ok-takes.ensures).yes c.if-branch.true),
    )

pub returns : goal.returns
returns c = λ p s. elim s [
  | inl k ↦ no_blank c.args.self.now.token.now k.0 c.requires
  | inr k ↦ elim k.2 [
    | inl x ↦ (took of_last_parameter c.args.self.now.front.now c.as_slice.result.now c.args.self.now.token.now c.in_ok-takes.field-0 (c.as_slice.ensures.value ∙ c.in_ok-last.ensures) c.in_ok-takes.ensures).no c.if-branch.false x
    | inr x ↦ (constants_tell c.args.self.now.front.now).no (sym c.ends_in_constants.ensures ∙ c.if-ends_in_constants.false) x
  ]
]
