use Rattle.std.proofs.Common.{ap, length, List, ◌∙◌}
use Rattle.tla_meaning.specs.Shapes.{record_of}
use Rattle.cell_arena.specs.declared.kinds.CellId.{CellId}
use Rattle.cell_arena.proofs.Growing.{Grows-trans}
use Rattle.typed_cells.proofs.PartSorts.{OfSorts-later, sorts-count, sorts-there}
use Rattle.member_choices.specs.Binders.{fields_sort}
use Rattle.member_choices.proofs.Tupled.{whole-made, wholes-push}
use Rattle.member_choices.proofs.products.record_cells.Goals as goal

pub record_of_fields-requires-clause-one_each : goal.record_of_fields-requires-clause-one_each
record_of_fields-requires-clause-one_each c =
    ap (λ (xs : List CellId). length xs) c.as_slice.ensures
    ∙ sorts-count _ c.requires.choices.sorts _
    (c.requires.choices.are c.loop-i.i c.index-cs-i.result c.loop-i-test.true) ∙ c.requires.choices.count

pub record_of_fields-requires-clause-there : goal.record_of_fields-requires-clause-there
record_of_fields-requires-clause-there c =
    rw c.as_slice.ensures
    (sorts-there _ c.requires.choices.sorts _
    (OfSorts-later _ _ c.requires.choices.sorts _
    (c.requires.choices.are c.loop-i.i c.index-cs-i.result c.loop-i-test.true) c.loop-i.invariant.grows))

pub loop-i-preserved : goal.loop-i-preserved
loop-i-preserved c =
    let i = c.loop-i.invariant in
    let make = record_of c.args.names.now in
    let made = fields_sort c.args.names.now in
    record {
      grows = Grows-trans _ _ _ i.grows c.in_ok-id.ensures.grows;
      wholes = wholes-push make made c.args.b.now _ _ c.args.cs.now c.loop-i.i _ _ _ _ c.requires.choices.sorts
          c.loop-i-test.true c.requires.choices.are i.grows c.in_ok-id.ensures.grows i.wholes
          (whole-made make made _ _ _ _ (rw c.as_slice.ensures at c.in_ok-id.ensures.value)
          (rw c.as_slice.ensures at c.in_ok-id.ensures.sort)) c.in_ok-push.ensures.items;
    }
