use Rattle.std.proofs.Common.{sym, ap, ◌≡◌, ◌∙◌}
use Rattle.tla_parser.proofs.Laws.{clash}
use Rattle.tla_parser.proofs.Sighted.{has_sign, last_two, sign_is, two_last}
use Rattle.tla_parser.specs.Signs.{sign}
use Rattle.tla_parser.specs.declared.signs.Sign.TheVariants.{Defines, RightParen}
use Rattle.tla_parser.proofs.sights.ends_in_parameters.Goals as goal

pub returns-then-is : goal.returns-then-is
returns-then-is c = (
  (λ h. (
    c.in-Some-split_last.field-0-1.now,
    c.in-Some-split_last.paren.now,
    c.in-Some.equals.now,
    last_two c.args.tokens.now c.in-Some.before.now c.in-Some-split_last.field-0-1.now c.in-Some.equals.now c.in-Some-split_last.paren.now c.in-Some.ensures.cases.0 c.in-Some-split_last.ensures.cases.0,
    has_sign RightParen c.sign_of.result c.is.result c.in-Some-split_last.paren.now c.sign_of.ensures c.is.ensures c.if-is.true,
    has_sign Defines c.sign_of-then-is.result c.is-then-is.result c.in-Some.equals.now c.sign_of-then-is.ensures c.is-then-is.ensures h,
  )),
  (λ k.
      let e : (k.1 ≡ c.in-Some-split_last.paren.now) × (k.2 ≡ c.in-Some.equals.now) = two_last c.args.tokens.now c.in-Some.before.now c.in-Some-split_last.field-0-1.now k.0 c.in-Some.equals.now c.in-Some-split_last.paren.now k.1 k.2 c.in-Some.ensures.cases.0 c.in-Some-split_last.ensures.cases.0 k.3 in
      sign_is Defines c.sign_of-then-is.result c.is-then-is.result c.in-Some.equals.now c.sign_of-then-is.ensures c.is-then-is.ensures (ap sign (sym e.1) ∙ k.5)),
)

pub returns-else-is : goal.returns-else-is
returns-else-is c = (
  (λ h. absurd (clash c.is.result h c.if-is.false)),
  (λ k.
      let e : (k.1 ≡ c.in-Some-split_last.paren.now) × (k.2 ≡ c.in-Some.equals.now) = two_last c.args.tokens.now c.in-Some.before.now c.in-Some-split_last.field-0-1.now k.0 c.in-Some.equals.now c.in-Some-split_last.paren.now k.1 k.2 c.in-Some.ensures.cases.0 c.in-Some-split_last.ensures.cases.0 k.3 in
      sign_is RightParen c.sign_of.result c.is.result c.in-Some-split_last.paren.now c.sign_of.ensures c.is.ensures (ap sign (sym e.0) ∙ k.4)),
)
