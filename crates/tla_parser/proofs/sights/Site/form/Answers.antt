use Rattle.std.proofs.Common.{Option, ap, subst, ◌∙◌}
use Rattle.tla_meaning.specs.declared.place.Place.{Place}
use Rattle.tla_parser.proofs.Sighted.{no_sight}
use Rattle.tla_parser.specs.inner.Sights.{Judges, family}
use Rattle.tla_parser.proofs.sights.Site.form.Goals as goal

pub returns-in-None : goal.returns-in-None
returns-in-None c =
    no_sight c.family-form.result c.args.self.now.front.now c.args.self.now.token.now c.args.self.now.rest.now (c.family-form.ensures ∙ ap family c.sign_of.ensures)
    (subst (λ (o : Option Place). Judges c.family-form.result o c.args.self.now.front.now c.args.self.now.token.now c.args.self.now.rest.now) c.in-None.is c.in_ok-place.ensures)
