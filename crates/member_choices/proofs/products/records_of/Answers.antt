use Rattle.tla_meaning.specs.Shapes.{record_of}
use Rattle.member_choices.specs.Binders.{fields_sort}
use Rattle.member_choices.proofs.Crossed.{sets-make, wholes-over}
use Rattle.member_choices.proofs.products.records_of.Goals as goal

pub set_of_cells-requires : goal.set_of_cells-requires
set_of_cells-requires c =
    wholes-over (record_of c.args.names.now) (fields_sort c.args.names.now) c.args.b.now _ c.args.cs.now _ _
    c.requires.choices.sorts c.requires.choices.are
    c.in_ok-ids.ensures.grows c.in_ok-ids.ensures.wholes c.as_slice.ensures.value c.requires.choices.below

pub returns-clause-makes : goal.returns-clause-makes
returns-clause-makes c =
    sets-make (record_of c.args.names.now) (fields_sort c.args.names.now) c.args.b.now _ c.args.cs.now _ _
    c.requires.choices.sorts c.requires.choices.are
    c.in_ok-ids.ensures.grows c.in_ok-ids.ensures.wholes c.as_slice.ensures.value _ _ c.in_ok-id.ensures.grows
    c.in_ok-id.ensures.collects
