use Rattle.std.proofs.Common.{ap, ◌∙◌}
use Rattle.std.specs.List.{list_all}
use Rattle.snowcat_rows.specs.FieldNames.{names_differ}
use Rattle.snowcat_rows.proofs.Naming.{record_named}
use Rattle.snowcat_rows.proofs.building.Builder.record.Goals as goal

pub push-requires-clause-named : goal.push-requires-clause-named
push-requires-clause-named c =
    record_named c.args.names.now c.into_vec.result.items c.in_ok-fields.fields.items c.from_vec.result c.in_ok-tail.tail
    c.in_ok-fields.ensures.mean c.requires.names (c.in_ok-fields.ensures.named (ap (list_all names_differ) c.into_vec.ensures ∙ c.in_ok-parts.ensures.named)) c.from_vec.ensures
