use Rattle.std.proofs.Common.{◌≡◌, ◌∙◌, IfOk, ap, subst, sym}
use Rattle.tla_meaning.specs.declared.op.Op.TheVariants.{Except}
use Rattle.tla_meaning.specs.declared.place.Place.{Place}
use Rattle.snowcat_types.specs.Waiting.{waiting}
use Rattle.snowcat_types.proofs.WaitSteps.{at_place}
use Rattle.snowcat_types.proofs.undecided.waits_of.Goals as goal

pub returns-in-Except : goal.returns-in-Except
returns-in-Except c =
    at_place (λ ws p. ws.items ≡ waiting p c.args.op.now c.args.first c.args.sights.now) c.update_waits.result c.args.place
    (subst (λ o. IfOk c.update_waits.result (λ ws. (p : Place) → ws.items ≡ waiting p o c.args.first c.args.sights.now))
    (ap Except c.as_slice.ensures ∙ sym c.in-Except.is) c.update_waits.ensures)
