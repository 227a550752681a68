use Rattle.member_choices.proofs.MoreChoices.{lists-none}
use Rattle.member_choices.proofs.listing.no_choice.Goals as goal

pub returns : goal.returns
returns c = λ d. lists-none d c.args.formula.now c.top.result _
    (rw (c.new-out.ensures.items, c.new.ensures) at c.in_ok-push.ensures.items) c.top.ensures.below c.top.ensures.forced
