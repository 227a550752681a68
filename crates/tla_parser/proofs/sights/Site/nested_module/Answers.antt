use Rattle.std.proofs.Common.{List, refl, sym, subst, ◌≡◌, ◌∙◌}
use Rattle.tla_lexer.specs.declared.token.Token.{Token}
use Rattle.tla_parser.proofs.Sighted.{has_sign, last_same, took}
use Rattle.tla_parser.specs.Refused.{Takes, of_unit}
use Rattle.tla_parser.specs.declared.signs.Sign.TheVariants.{Dashes}
use Rattle.tla_parser.proofs.sights.Site.nested_module.Goals as goal

pub returns-then-branch : goal.returns-then-branch
returns-then-branch c = (
  c.requires,
  c.in-Some.before.now,
  c.in-Some.dashes.now,
  c.in-Some.ensures.cases.0,
  has_sign Dashes c.sign_of.result c.is.result c.in-Some.dashes.now c.sign_of.ensures c.is.ensures c.if-not-is.false,
  refl,
  (took of_unit c.in-Some.before.now c.as_slice.result.now c.in-Some.dashes.now c.in_ok-goes.field-0 (c.as_slice.ensures.value ∙ c.in_ok-unit.ensures) c.in_ok-goes.ensures).yes c.if-branch.true,
)

pub returns : goal.returns
returns c = λ p s.
    let k : (s.1 ≡ c.in-Some.before.now) × (s.2 ≡ c.in-Some.dashes.now) = last_same c.in-Some.before.now s.1 c.in-Some.dashes.now s.2 (sym c.in-Some.ensures.cases.0 ∙ s.3) in
    (took of_unit c.in-Some.before.now c.as_slice.result.now c.in-Some.dashes.now c.in_ok-goes.field-0 (c.as_slice.ensures.value ∙ c.in_ok-unit.ensures) c.in_ok-goes.ensures).no c.if-branch.false
    (subst (λ (us : List Token). Takes of_unit us c.in-Some.dashes.now) k.0 (subst (λ (v : Token). Takes of_unit s.1 v) k.1 s.6))
