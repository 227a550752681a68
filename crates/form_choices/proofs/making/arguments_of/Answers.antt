use Rattle.std.proofs.Common.{refl}
use Rattle.form_choices.proofs.Makings.{arguments-listed}
use Rattle.form_choices.proofs.making.arguments_of.Goals as goal

pub returns-clause-lists : goal.returns-clause-lists
returns-clause-lists c = arguments-listed c.args.b.now _ _ c.args.s _ c.requires c.in_ok-edges.ensures.joins refl refl
