use Rattle.form_choices.proofs.Listings.{set-of-form}
use Rattle.form_choices.proofs.Pickings.{picks-some}
use Rattle.form_choices.proofs.choosing.pick_some.Goals as goal

pub pick_subset-requires : goal.pick_subset-requires
pick_subset-requires c = set-of-form c.args.b.now _ c.args.form.now _ c.requires c.in_ok-set.ensures.lists

pub returns-clause-picks : goal.returns-clause-picks
returns-clause-picks c =
    picks-some c.args.b.now _ _ c.args.form.now _ _ _ c.requires c.in_ok-set.ensures.grows c.in_ok-id.ensures.grows c.in_ok-set.ensures.lists c.in_ok-id.ensures.picks
    c.top.ensures.below c.top.ensures.forced
