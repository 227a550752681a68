use Rattle.std.proofs.Common.{◌∙◌, None, ap}
use Rattle.snowcat_rows.specs.declared.types.Ty.TheVariants.{Rec}
use Rattle.snowcat_rows.specs.FieldNames.{names_differ}
use Rattle.snowcat_rows.specs.Types.{mean}
use Rattle.snowcat_rows.proofs.Naming.{differ-Rec}
use Rattle.snowcat_types.proofs.FieldSteps.{record_is}
use Rattle.snowcat_types.proofs.forms.record_of.Goals as goal

pub returns-clause-mean : goal.returns-clause-mean
returns-clause-mean c =
    ap (λ z. mean (Rec z None)) c.from_vec.ensures
    ∙ record_is c.in_ok-fields.fields.items c.args.names.now c.args.types.now c.in_ok-fields.ensures.tells

pub returns-clause-named : goal.returns-clause-named
returns-clause-named c = λ h.
    ap (λ z. names_differ (Rec z None)) c.from_vec.ensures ∙ differ-Rec c.in_ok-fields.fields.items None ∙ c.in_ok-fields.ensures.named h
