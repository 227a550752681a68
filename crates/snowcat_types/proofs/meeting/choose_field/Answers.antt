use Rattle.snowcat_rows.specs.declared.types.Ty.{Var}
use Rattle.snowcat_rows.specs.Types.{mean}
use Rattle.snowcat_rows.specs.Views.{issued_of}
use Rattle.snowcat_rows.proofs.Means.{mean-Var}
use Rattle.snowcat_rows.proofs.Naming.{differ-Var}
use Rattle.snowcat_types.proofs.FieldMet.{record_told, var_within}
use Rattle.snowcat_types.proofs.Further.{further_then}
use Rattle.snowcat_types.proofs.meeting.choose_field.Goals as goal

pub unify-requires-clause-left : goal.unify-requires-clause-left
unify-requires-clause-left c =
    var_within (issued_of c.args.subst.now) (issued_of c.open_record.new.subst) c.args.whole c.in-Ok.ensures.opened.issued c.requires.0

pub unify-requires-clause-names : goal.unify-requires-clause-names
unify-requires-clause-names c = (differ-Var c.args.whole, c.in-Ok.ensures.opened.named)

pub returns-in-Ok-clause-met : goal.returns-in-Ok-clause-met
returns-in-Ok-clause-met c = λ n l rs h f lr lv.
    record_told n l rs c.args.subst.now c.args.whole c.args.field c.args.name.now h f lr lv c.open_record.new.subst c.unify.new.self
    c.unify.result (mean (Var c.args.whole)) (mean c.in-Ok.part) c.in-Ok.ensures.opened.issued c.in-Ok.ensures.opened.kept (mean-Var c.args.whole) c.in-Ok.ensures.opened.means c.unify.ensures.more c.unify.ensures.ok c.unify.ensures.err

pub returns-in-Ok-clause-kept : goal.returns-in-Ok-clause-kept
returns-in-Ok-clause-kept c = further_then _ c.open_record.new.subst _ c.open_record.ensures.kept (record { more = c.unify.ensures.more; begins = c.unify.ensures.further })
