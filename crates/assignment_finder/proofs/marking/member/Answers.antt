use Rattle.std.proofs.Common.{Option, refl, ap, subst}
use Rattle.tla_meaning.specs.declared.place.Place.{Place}
use Rattle.kernel_trees.specs.declared.path.AssignedStep.TheVariants as mark
use Rattle.kernel_trees.specs.Sound.{infinite_places}
use Rattle.assignment_finder.specs.inner.Open.{open_by}
use Rattle.assignment_finder.specs.inner.Places.{IsEarliest}
use Rattle.assignment_finder.proofs.Taking.{early_one, refused, takes}
use Rattle.assignment_finder.proofs.marking.member.Goals as goal

pub returns-in-Some : goal.returns-in-Some
returns-in-Some c =
    refused c.args.free.now (mark.Among c.args.name c.args.form.now) c.first_read.result
    (early_one (open_by c.args.free.now) c.args.form.now (mark.Among c.args.name c.args.form.now) c.first_read.result refl c.first_read.ensures)
    c.args.free.now c.in_ok-place.place c.in-Some.fault c.in-Some.ensures c.in_ok-place.ensures

pub returns : goal.returns
returns c =
    takes c.args.free.now (mark.Among c.args.name c.args.form.now) c.first_read.result
    (early_one (open_by c.args.free.now) c.args.form.now (mark.Among c.args.name c.args.form.now) c.first_read.result refl c.first_read.ensures)
    c.close.new.self (mark.Among c.args.name c.in_ok-copy.copy) c.in_default.ensures.0 (ap (mark.Among c.args.name) c.in_ok-copy.ensures)
    (subst (λ (p : Option Place). IsEarliest (infinite_places c.args.form.now) p) c.in_default.ensures.1 c.in_ok-place.ensures)
    (λ m before may h. c.close.ensures m before may h)
