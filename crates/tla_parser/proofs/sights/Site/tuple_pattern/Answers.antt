use Rattle.std.proofs.Common.{true, refl, sym, ap, ◌≡◌, ◌∙◌}
use Rattle.tla_lexer.specs.declared.token.Token.{Token}
use Rattle.tla_parser.proofs.Laws.{clash}
use Rattle.tla_parser.proofs.Sighted.{follows_last, last_follows, took}
use Rattle.tla_parser.specs.Signs.{sign}
use Rattle.tla_parser.specs.Refused.{before_names, of_bound_name}
use Rattle.tla_parser.proofs.sights.Site.tuple_pattern.Goals as goal

pub returns-then-not-before_names : goal.returns-then-not-before_names
returns-then-not-before_names c = λ p s.
    clash c.before_names.result
    (c.before_names.ensures ∙ ap before_names c.sign_of.ensures ∙ follows_last (λ (u : Token). before_names (sign u) ≡ true) c.args.self.now.front.now c.in-Some.field-0-1.now c.in-Some.last.now c.in-Some.ensures.cases.0 s.2)
    c.if-not-before_names.true

pub returns-then-branch : goal.returns-then-branch
returns-then-branch c = (
  c.requires,
  refl,
  last_follows (λ (u : Token). before_names (sign u) ≡ true) c.args.self.now.front.now c.in-Some.field-0-1.now c.in-Some.last.now c.in-Some.ensures.cases.0 (sym (ap before_names c.sign_of.ensures) ∙ sym c.before_names.ensures ∙ c.if-not-before_names.false),
  (took of_bound_name c.args.self.now.front.now c.as_slice.result.now c.args.self.now.token.now c.in_ok-takes.field-0 (c.as_slice.ensures.value ∙ c.in_ok-name.ensures) c.in_ok-takes.ensures).yes c.if-branch.true,
)

pub returns : goal.returns
returns c = λ p s. (took of_bound_name c.args.self.now.front.now c.as_slice.result.now c.args.self.now.token.now c.in_ok-takes.field-0 (c.as_slice.ensures.value ∙ c.in_ok-name.ensures) c.in_ok-takes.ensures).no c.if-branch.false s.3
