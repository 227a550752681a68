use Rattle.tla_meaning.specs.Shapes.{record_of}
use Rattle.tla_meaning.specs.declared.op.Op.TheVariants as op
use Rattle.member_choices.specs.Binders.{fields_sort}
use Rattle.member_choices.proofs.Crossed.{lists-count, product-row, records-gives}
use Rattle.member_choices.proofs.products.records.Goals as goal

pub records_of-requires-clause-choices : goal.records_of-requires-clause-choices
records_of-requires-clause-choices c =
    rw c.as_slice.ensures.value (lists-count c.args.b.now _ _ c.args.sets.now _ c.requires.sets c.requires.one_each
    c.in_ok-cs.ensures.grows c.in_ok-cs.ensures.lists)

pub returns-clause-makes : goal.returns-clause-makes
returns-clause-makes c =
    product-row (op.RecSet c.args.names.now) (record_of c.args.names.now) (fields_sort c.args.names.now)
    (records-gives c.args.names.now) c.args.b.now _ _ c.args.sets.now _ _ _
    c.requires.sets c.in_ok-cs.ensures.grows c.in_ok-id.ensures.grows c.in_ok-cs.ensures.lists
    (rw c.as_slice.ensures.value at c.in_ok-id.ensures.makes)
    c.sure.ensures.shows c.sure.ensures.cells
