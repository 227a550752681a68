use Rattle.std.proofs.Common.{◌∙◌, ◌++◌, ◌∷◌, [], ap}
use Rattle.snowcat_rows.specs.declared.types.Ty.{Var}
use Rattle.snowcat_types.proofs.FieldMet.{open_differs, open_means}
use Rattle.snowcat_types.proofs.Further.{further_fresh, further_same}
use Rattle.snowcat_types.proofs.meeting.open_record.Goals as goal

pub returns-clause-opened : goal.returns-clause-opened
returns-clause-opened c =
    let items = c.from_vec.ensures ∙ c.in_ok-push.ensures.items ∙ ap (λ l. l ++ (c.in_ok-name.name, Var c.args.field) ∷ []) c.new-fields.ensures.items in
    record {
      means = open_means c.from_vec.result c.in_ok-name.name c.args.name.now c.args.field c.issued-row.result _ items c.in_ok-name.ensures c.issued-row.ensures.count;
      named = open_differs c.from_vec.result c.in_ok-name.name c.args.field c.issued-row.result items;
      issued = c.fresh.ensures.issued;
      kept = c.fresh.ensures.same;
    }

pub returns-clause-kept : goal.returns-clause-kept
returns-clause-kept c = further_fresh _ _ c.fresh.ensures.issued c.fresh.ensures.same

pub returns-then-row-clause-kept : goal.returns-then-row-clause-kept
returns-then-row-clause-kept c = further_same _

pub returns-in_err-name-clause-kept : goal.returns-in_err-name-clause-kept
returns-in_err-name-clause-kept c = further_same _

pub returns-in_err-push-clause-kept : goal.returns-in_err-push-clause-kept
returns-in_err-push-clause-kept c = further_same _
