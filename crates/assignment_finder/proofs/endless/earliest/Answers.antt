use Rattle.std.proofs.Common.{List, take, sym, subst, Some}
use Rattle.tla_meaning.specs.declared.place.Place.{Place}
use Rattle.assignment_finder.specs.inner.Places.{IsEarliest}
use Rattle.assignment_finder.proofs.Listing.{take_item}
use Rattle.assignment_finder.proofs.endless.earliest.Goals as goal

pub loop-place-preserved : goal.loop-place-preserved
loop-place-preserved c =
    subst (λ (ps : List Place). IsEarliest ps (Some c.earlier.result))
    (sym (take_item c.args.places.now c.loop-place.place-index _ c.loop-place-test.true))
    (c.earlier.ensures (take c.loop-place.place-index c.args.places.now) c.loop-place.invariant)
