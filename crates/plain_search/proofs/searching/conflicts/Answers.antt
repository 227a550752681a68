use Rattle.std.proofs.Common.{◌∙◌, ◌-◌, [], arith, length, refl}
use Rattle.std.proofs.lemmas.List.{get_or_default}
use Rattle.plain_search.proofs.Indexed.{last_decides}
use Rattle.plain_search.proofs.searching.conflicts.Goals as goal

pub returns-in_default : goal.returns-in_default
returns-in_default c =
    last_decides c.args.cnf.now.clauses c.args.index.now c.args.values.now (length c.args.values.now) c.has_false_among.result _ c.index-index-count.result c.requires.index c.requires.within
    c.requires.calm refl (omega arith) c.has_false_among.ensures c.as_slice.ensures
    (c.index-index-count.is ∙ get_or_default c.args.index.now (length c.args.values.now - 1) c.index-index-count.result [] (omega arith))
