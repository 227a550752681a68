use Rattle.tla_meaning.specs.Shapes.{sequence}
use Rattle.tla_meaning.specs.declared.op.Op.TheVariants as op
use Rattle.typed_cells.specs.KindSorts.{tuple_sort}
use Rattle.member_choices.proofs.Crossed.{lists-over, product-gives, product-row}
use Rattle.member_choices.proofs.products.tuples.Goals as goal

pub tuples_of-requires : goal.tuples_of-requires
tuples_of-requires c = rw c.as_slice.ensures.value
    (lists-over c.args.b.now _ c.args.sets.now _ c.requires c.in_ok-cs.ensures.grows c.in_ok-cs.ensures.lists)

pub returns-clause-makes : goal.returns-clause-makes
returns-clause-makes c =
    product-row op.Product sequence tuple_sort product-gives c.args.b.now _ _ c.args.sets.now _ _ _ c.requires
    c.in_ok-cs.ensures.grows c.in_ok-id.ensures.grows
    c.in_ok-cs.ensures.lists (rw c.as_slice.ensures.value at c.in_ok-id.ensures.makes) c.sure.ensures.shows
    c.sure.ensures.cells
