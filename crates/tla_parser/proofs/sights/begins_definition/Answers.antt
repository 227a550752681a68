use Rattle.std.proofs.Common.{List, sym, ap, ◌≡◌, ◌∷◌, ◌∙◌}
use Rattle.tla_lexer.specs.declared.token.Token.{Token}
use Rattle.tla_parser.proofs.Sighted.{first_same, has_sign, rest_same, sign_is}
use Rattle.tla_parser.specs.Signs.{sign}
use Rattle.tla_parser.specs.declared.signs.Sign.TheVariants.{Defines, Word}
use Rattle.tla_parser.proofs.sights.begins_definition.Goals as goal

pub returns-then-is : goal.returns-then-is
returns-then-is c = (
  (λ h. (
    c.in-Some.name.now,
    c.in-Some-split_first.equals.now,
    c.in-Some-split_first.field-0-1.now,
    c.in-Some.ensures.cases.0 ∙ ap (λ (us : List Token). c.in-Some.name.now ∷ us) c.in-Some-split_first.ensures.cases.0,
    has_sign Word c.sign_of.result c.is.result c.in-Some.name.now c.sign_of.ensures c.is.ensures c.if-is.true,
    has_sign Defines c.sign_of-then-is.result c.is-then-is.result c.in-Some-split_first.equals.now c.sign_of-then-is.ensures c.is-then-is.ensures h,
  )),
  (λ k.
      let v : k.1 ≡ c.in-Some-split_first.equals.now = first_same _ _ _ _ (sym (rest_same _ _ _ _ (sym c.in-Some.ensures.cases.0 ∙ k.3)) ∙ c.in-Some-split_first.ensures.cases.0) in
      sign_is Defines c.sign_of-then-is.result c.is-then-is.result c.in-Some-split_first.equals.now c.sign_of-then-is.ensures c.is-then-is.ensures (ap sign (sym v) ∙ k.5)),
)
