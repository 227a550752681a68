use Rattle.member_choices.proofs.MoreChoices.{set-adds}
use Rattle.member_choices.proofs.listing.add_set.Goals as goal

pub returns-clause-adds : goal.returns-clause-adds
returns-clause-adds c =
    set-adds _ _ c.args.set _ c.in-Set.edges _ _ _ c.kind.ensures.same c.in-Set.is c.kind.ensures.decodes
    c.as_slice.ensures c.in_ok-out.ensures.adds
