use Rattle.std.proofs.Common.{codes, refl}
use Rattle.tla_meaning.specs.StandardModules.{apalache, library}
use Rattle.flat_modules.proofs.LearningLemmas.{on_ok}
use Rattle.flat_modules.proofs.OneByOne.{and_one}
use Rattle.flat_modules.proofs.standards.add_apalache.Goals as goal

pub returns : goal.returns
returns c =
    let start = c.args.out.now.items in
    let a2 = and_one apalache start c.add.new.out.items c.add_library.new.out.items 1 (library (codes "ApaFoldSet") 3) refl c.in_ok-add.ensures c.in_ok-add_library.ensures in
    let a3 = and_one apalache start c.add_library.new.out.items c.add_library-2.new.out.items 2 (library (codes "Gen") 1) refl a2 c.in_ok-add_library-2.ensures in
    let a4 = and_one apalache start c.add_library-2.new.out.items c.add_library-3.new.out.items 3 (library (codes "Guess") 1) refl a3 c.in_ok-add_library-3.ensures in
    let a5 = and_one apalache start c.add_library-3.new.out.items c.add_library-4.new.out.items 4 (library (codes "MkSeq") 2) refl a4 c.in_ok-add_library-4.ensures in
    let a6 = and_one apalache start c.add_library-4.new.out.items c.add_library-5.new.out.items 5 (library (codes "FunAsSeq") 3) refl a5 c.in_ok-add_library-5.ensures in
    let a7 = and_one apalache start c.add_library-5.new.out.items c.add_library-6.new.out.items 6 (library (codes "SetAsFun") 1) refl a6 c.in_ok-add_library-6.ensures in
    let a8 = and_one apalache start c.add_library-6.new.out.items c.add_library-7.new.out.items 7 (library (codes "Repeat") 3) refl a7 c.in_ok-add_library-7.ensures in
    let a9 = and_one apalache start c.add_library-7.new.out.items c.add_library-8.new.out.items 8 (library (codes "Skolem") 1) refl a8 c.in_ok-add_library-8.ensures in
    let a10 = and_one apalache start c.add_library-8.new.out.items c.add_library-9.new.out.items 9 (library (codes "Expand") 1) refl a9 c.in_ok-add_library-9.ensures in
    on_ok c.add_library-10.result (and_one apalache start c.add_library-9.new.out.items c.add_library-10.new.out.items 10 (library (codes "ConstCardinality") 1) refl a10) c.add_library-10.ensures
