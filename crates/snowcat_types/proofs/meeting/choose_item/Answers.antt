use Rattle.snowcat_rows.specs.declared.types.Ty.{Var}
use Rattle.snowcat_rows.specs.Types.{mean, var}
use Rattle.snowcat_rows.specs.Substitutions.{apply}
use Rattle.snowcat_rows.specs.Views.{issued_of, stands_for}
use Rattle.snowcat_rows.proofs.Means.{mean-Var}
use Rattle.snowcat_rows.proofs.Naming.{differ-Var}
use Rattle.snowcat_types.proofs.FieldMet.{variable_within}
use Rattle.snowcat_types.proofs.ItemMet.{item_met, item_within, unknown_within}
use Rattle.snowcat_types.proofs.meeting.choose_item.Goals as goal

pub unify-requires-clause-left : goal.unify-requires-clause-left
unify-requires-clause-left c =
    let s = c.args.subst.now in
    item_within (issued_of s) (apply (stands_for s) (var c.args.whole)) c.args.i (mean c.args.item.now) c.requires.found (unknown_within s c.args.whole c.requires.issued.0)

pub unify-requires-clause-right : goal.unify-requires-clause-right
unify-requires-clause-right c = variable_within (issued_of c.args.subst.now) c.args.part c.requires.issued.1

pub unify-requires-clause-names : goal.unify-requires-clause-names
unify-requires-clause-names c = (c.requires.names, differ-Var c.args.part)

pub returns-clause-met : goal.returns-clause-met
returns-clause-met c = λ n l rs h f lr lv.
    item_met n l rs c.args.subst.now c.args.whole c.args.part c.args.i (mean c.args.item.now) h f lr lv c.requires.found c.unify.new.self c.unify.result
    (mean (Var c.args.part)) (mean-Var c.args.part) c.unify.ensures.more c.unify.ensures.ok c.unify.ensures.err
