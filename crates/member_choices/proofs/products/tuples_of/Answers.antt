use Rattle.tla_meaning.specs.Shapes.{sequence}
use Rattle.typed_cells.specs.KindSorts.{tuple_sort}
use Rattle.member_choices.proofs.Crossed.{sets-make, wholes-over}
use Rattle.member_choices.proofs.products.tuples_of.Goals as goal

pub wholes-requires : goal.wholes-requires
wholes-requires c = c.requires.some

pub set_of_cells-requires : goal.set_of_cells-requires
set_of_cells-requires c =
    wholes-over sequence tuple_sort c.args.b.now _ c.args.cs.now _ _ c.requires.some.sorts c.requires.some.are
    c.in_ok-ids.ensures.grows
    c.in_ok-ids.ensures.wholes c.as_slice.ensures.value c.requires.below

pub returns-clause-makes : goal.returns-clause-makes
returns-clause-makes c =
    sets-make sequence tuple_sort c.args.b.now _ c.args.cs.now _ _ c.requires.some.sorts c.requires.some.are
    c.in_ok-ids.ensures.grows
    c.in_ok-ids.ensures.wholes c.as_slice.ensures.value _ _ c.in_ok-id.ensures.grows c.in_ok-id.ensures.collects
