use Rattle.std.proofs.Common.{◌∙◌, ap, refl}
use Rattle.snowcat_types.specs.Waiting.{choice}
use Rattle.snowcat_types.proofs.Chosen.{never_chosen, other_never}
use Rattle.snowcat_types.proofs.choosing.choose.Goals as goal

pub returns-in-Other-clause-tried : goal.returns-in-Other-clause-tried
returns-in-Other-clause-tried c =
    never_chosen {v = c.args.wait.now} c.args.kind c.args.subst.now c.refuse-in-Other.new.subst c.refuse-in-Other.result refl
    (ap (choice c.args.wait.now) c.in-Other.is ∙ other_never c.args.wait.now) c.refuse-in-Other.ensures.excluded
