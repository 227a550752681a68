use Rattle.std.proofs.Common.{refl}
use Rattle.member_choices.proofs.Placing.{item-at}
use Rattle.member_choices.proofs.folding.item_at.Goals as goal

pub returns-clause-item : goal.returns-clause-item
returns-clause-item c =
    item-at c.args.b.now _ c.args.s c.args.place _ _ c.requires refl c.in_ok-out.ensures.grows c.part_at.ensures.part
    c.part_at.ensures.older c.in_ok-out.ensures.absent
