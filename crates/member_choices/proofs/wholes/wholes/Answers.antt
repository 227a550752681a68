use Rattle.cell_arena.proofs.Growing.{Grows-trans}
use Rattle.typed_cells.proofs.PartSorts.{OfSorts-later}
use Rattle.member_choices.specs.inner.Tests.{whole_sort, whole_value}
use Rattle.member_choices.proofs.Tupled.{wholes-push}
use Rattle.member_choices.proofs.wholes.wholes.Goals as goal

pub whole-requires : goal.whole-requires
whole-requires c = record {
  sorts = c.requires.sorts;
  are = rw c.as_slice.ensures
      (OfSorts-later _ _ c.requires.sorts _ (c.requires.are c.loop-i.i c.index-cs-i.result c.loop-i-test.true)
      c.loop-i.invariant.grows);
}

pub loop-i-preserved : goal.loop-i-preserved
loop-i-preserved c =
    let i = c.loop-i.invariant in
    record {
      grows = Grows-trans _ _ _ i.grows c.in_ok-id.ensures.grows;
      wholes = wholes-push (whole_value c.args.alone)
          (whole_sort c.args.alone) c.args.b.now _ _ c.args.cs.now c.loop-i.i _ _ _ _ c.requires.sorts
          c.loop-i-test.true c.requires.are i.grows c.in_ok-id.ensures.grows i.wholes
          (rw c.as_slice.ensures at c.in_ok-id.ensures.whole) c.in_ok-push.ensures.items;
    }
