use Rattle.std.proofs.Common.{codes, refl}
use Rattle.tla_meaning.specs.StandardModules.{library, model_values}
use Rattle.flat_modules.proofs.LearningLemmas.{on_ok}
use Rattle.flat_modules.proofs.OneByOne.{and_one}
use Rattle.flat_modules.proofs.standards.add_model_values.Goals as goal

pub returns : goal.returns
returns c =
    let start = c.args.out.now.items in
    let a2 = and_one model_values start c.add_library.new.out.items c.add_library-2.new.out.items 1 (library (codes "PrintT") 1) refl c.in_ok-add_library.ensures c.in_ok-add_library-2.ensures in
    let a3 = and_one model_values start c.add_library-2.new.out.items c.add_library-3.new.out.items 2 (library (codes "Assert") 2) refl a2 c.in_ok-add_library-3.ensures in
    let a4 = and_one model_values start c.add_library-3.new.out.items c.add_library-4.new.out.items 3 (library (codes "Permutations") 1) refl a3 c.in_ok-add_library-4.ensures in
    let a5 = and_one model_values start c.add_library-4.new.out.items c.add_library-5.new.out.items 4 (library (codes "SortSeq") 2) refl a4 c.in_ok-add_library-5.ensures in
    let a6 = and_one model_values start c.add_library-5.new.out.items c.add_library-6.new.out.items 5 (library (codes "ToString") 1) refl a5 c.in_ok-add_library-6.ensures in
    let a7 = and_one model_values start c.add_library-6.new.out.items c.add_library-7.new.out.items 6 (library (codes "TLCGet") 1) refl a6 c.in_ok-add_library-7.ensures in
    let a8 = and_one model_values start c.add_library-7.new.out.items c.add_library-8.new.out.items 7 (library (codes "TLCSet") 2) refl a7 c.in_ok-add_library-8.ensures in
    let a9 = and_one model_values start c.add_library-8.new.out.items c.add_library-9.new.out.items 8 (library (codes "RandomElement") 1) refl a8 c.in_ok-add_library-9.ensures in
    let a10 = and_one model_values start c.add_library-9.new.out.items c.add_library-10.new.out.items 9 (library (codes "JavaTime") 0) refl a9 c.in_ok-add_library-10.ensures in
    let a11 = and_one model_values start c.add_library-10.new.out.items c.add_library-11.new.out.items 10 (library (codes "Any") 0) refl a10 c.in_ok-add_library-11.ensures in
    on_ok c.add_library-12.result (and_one model_values start c.add_library-11.new.out.items c.add_library-12.new.out.items 11 (library (codes "TLCEval") 1) refl a11) c.add_library-12.ensures
