use Rattle.cell_merge.proofs.Shapes.{names-differ, named-older}
use Rattle.cell_merge.proofs.composites.with_parts.Goals as goal

pub rec-requires-clause-differ : goal.rec-requires-clause-differ
rec-requires-clause-differ c =
    rw (c.from_vec.ensures, c.in_ok-named.ensures, c.as_slice-in-Rec.ensures.value)
    (names-differ c.args.b.now.arena.kinds c.args.id c.args.id.index c.args.b.now.arena.width _ c.in-Rec.fields _ _ c.requires c.kind.ensures.same c.in-Rec.is c.as_slice.ensures c.kind.ensures.held.formed)

pub rec-requires-clause-older : goal.rec-requires-clause-older
rec-requires-clause-older c =
    rw (c.from_vec.ensures, c.in_ok-named.ensures, c.as_slice-in-Rec.ensures.value)
    (named-older c.args.b.now.arena.kinds c.args.id c.args.id.index c.args.b.now.arena.width _ c.in-Rec.fields _ _ c.requires c.kind.ensures.same c.in-Rec.is c.as_slice.ensures)
