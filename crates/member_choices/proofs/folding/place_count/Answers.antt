use Rattle.member_choices.proofs.Placing.{holds-items}
use Rattle.member_choices.proofs.folding.place_count.Goals as goal

pub returns : goal.returns
returns c = holds-items c.args.b.now c.args.s _ c.requires c.part_count.ensures
