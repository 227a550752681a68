use Rattle.std.proofs.Common.{◌∙◌, sym, subst, Option}
use Rattle.tla_meaning.specs.declared.place.Place.{Place}
use Rattle.assignment_finder.specs.inner.Places.{IsEarliest}
use Rattle.assignment_finder.proofs.FormPlaces.{earliest_new, earliest_old}
use Rattle.assignment_finder.proofs.endless.earlier.Goals as goal

pub returns-then-is_before : goal.returns-then-is_before
returns-then-is_before c = λ ps h.
    earliest_new ps c.args.place c.in-Some.other (subst (λ (o : Option Place). IsEarliest ps o) c.in-Some.is h) (sym c.is_before.ensures ∙ c.if-is_before.true)

pub returns-else-is_before : goal.returns-else-is_before
returns-else-is_before c = λ ps h.
    earliest_old ps c.args.place c.in-Some.other (subst (λ (o : Option Place). IsEarliest ps o) c.in-Some.is h) (sym c.is_before.ensures ∙ c.if-is_before.false)
