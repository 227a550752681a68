use Rattle.std.proofs.Common.{None, refl, ◌∙◌}
use Rattle.rewriting_tests.proofs.TypedParts.{field-counts, of-rec, types-there}
use Rattle.rewriting_tests.proofs.value_cells.record_cell.Goals as goal

pub record_of_fields-requires-clause-one_each : goal.record_of_fields-requires-clause-one_each
record_of_fields-requires-clause-one_each c =
    rw c.as_slice-texts.ensures.value (field-counts _ _ _ _ c.requires c.in_ok-names.ensures)

pub record_of_fields-requires-clause-there : goal.record_of_fields-requires-clause-there
record_of_fields-requires-clause-there c = types-there _ _ _ c.requires

pub returns-clause-cell : goal.returns-clause-cell
returns-clause-cell c =
    of-rec _ _ _ c.args.fields.now _ _ _ _ refl refl c.requires (c.as_slice-texts.ensures.value ∙ c.in_ok-names.ensures)
    c.in_ok-id.ensures.value.there c.in_ok-id.ensures.sort
