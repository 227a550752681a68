use Rattle.std.proofs.Common.{codes, refl}
use Rattle.tla_meaning.specs.declared.op.Op.TheVariants as op
use Rattle.tla_meaning.specs.StandardModules.{finite_sets, standard}
use Rattle.flat_modules.proofs.LearningLemmas.{on_ok}
use Rattle.flat_modules.proofs.OneByOne.{and_one}
use Rattle.flat_modules.proofs.standards.add_finite_sets.Goals as goal

pub returns : goal.returns
returns c =
    let start = c.args.out.now.items in
    on_ok c.add-2.result (and_one finite_sets start c.add.new.out.items c.add-2.new.out.items 1 (standard (codes "IsFiniteSet") op.IsFinite 1) refl c.in_ok-add.ensures) c.add-2.ensures
