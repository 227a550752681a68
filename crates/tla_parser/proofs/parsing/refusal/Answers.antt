use Rattle.std.proofs.Common.{Option, sym, subst, ◌∙◌}
use Rattle.tla_meaning.specs.declared.place.Place.{Place}
use Rattle.tla_parser.proofs.Sighted.{first_in, none_behind}
use Rattle.tla_parser.specs.declared.fault.Syntax.{Syntax}
use Rattle.tla_parser.specs.inner.Sights.{IsFound}
use Rattle.tla_parser.proofs.parsing.refusal.Goals as goal

pub returns-then-not-are_whole : goal.returns-then-not-are_whole
returns-then-not-are_whole c = λ l e h. (c.bad-fault.ensures c.args.tokens.now l e h, none_behind c.args.tokens.now (h.broken_so (sym c.are_whole.ensures ∙ c.if-not-are_whole.true)))

pub returns-in-Some : goal.returns-in-Some
returns-in-Some c = λ l e h.
    first_in c.in-Some.form c.in-Some.place c.args.tokens.now (h.whole_so (sym c.are_whole.ensures ∙ c.if-not-are_whole.false))
    (subst (λ (o : Option (Place × Syntax)). IsFound o c.args.tokens.now) c.in-Some.is c.in_ok-place.ensures)

pub returns-in-None : goal.returns-in-None
returns-in-None c = λ l e h. (
  c.bad-fault.ensures c.args.tokens.now l e h,
  λ form p st. (subst (λ (o : Option (Place × Syntax)). IsFound o c.args.tokens.now) c.in-None.is c.in_ok-place.ensures) form p st.sticks,
)
