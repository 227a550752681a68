use Rattle.function_operators.proofs.Found.{old_found, part_mapping}
use Rattle.function_operators.proofs.updates.old_at.Goals as goal

pub returns-clause-old : goal.returns-clause-old
returns-clause-old c =
    let b = c.args.b.now in
    old_found b _ _ _ _ (λ a. part_mapping b.arena a c.args.f c.args.index _ _ b.built c.requires.is c.requires.at)
    c.in_ok-found.ensures.finds
