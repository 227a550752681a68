use Rattle.std.proofs.Common.{refl}
use Rattle.snowcat_types.specs.declared.kinds.Kind.TheVariants.{Function}
use Rattle.snowcat_types.proofs.Chosen.{never_chosen}
use Rattle.snowcat_types.proofs.choosing.choose_function.Goals as goal

pub returns-in-Tuple-clause-tried : goal.returns-in-Tuple-clause-tried
returns-in-Tuple-clause-tried c = never_chosen Function c.args.subst.now c.refuse.new.subst c.refuse.result c.in-Tuple.is refl c.refuse.ensures.excluded
