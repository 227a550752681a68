use Rattle.std.proofs.Common.{codes, refl}
use Rattle.tla_meaning.specs.declared.op.Op.TheVariants as op
use Rattle.tla_meaning.specs.StandardModules.{library, sequences, standard}
use Rattle.flat_modules.proofs.LearningLemmas.{on_ok}
use Rattle.flat_modules.proofs.OneByOne.{and_one}
use Rattle.flat_modules.proofs.standards.add_sequences.Goals as goal

pub returns : goal.returns
returns c =
    let start = c.args.out.now.items in
    let a2 = and_one sequences start c.add.new.out.items c.add-2.new.out.items 1 (standard (codes "Len") op.Len 1) refl c.in_ok-add.ensures c.in_ok-add-2.ensures in
    let a3 = and_one sequences start c.add-2.new.out.items c.add-3.new.out.items 2 (standard (codes "Append") op.Append 2) refl a2 c.in_ok-add-3.ensures in
    let a4 = and_one sequences start c.add-3.new.out.items c.add-4.new.out.items 3 (standard (codes "Head") op.Head 1) refl a3 c.in_ok-add-4.ensures in
    let a5 = and_one sequences start c.add-4.new.out.items c.add-5.new.out.items 4 (standard (codes "Tail") op.Tail 1) refl a4 c.in_ok-add-5.ensures in
    let a6 = and_one sequences start c.add-5.new.out.items c.add-6.new.out.items 5 (standard (codes "SubSeq") op.SubSeq 3) refl a5 c.in_ok-add-6.ensures in
    on_ok c.add_library.result (and_one sequences start c.add-6.new.out.items c.add_library.new.out.items 6 (library (codes "SelectSeq") 2) refl a6) c.add_library.ensures
