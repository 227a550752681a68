use Rattle.std.proofs.Common.{refl, arith, length, ◌<◌}
use Rattle.std.proofs.lemmas.List.Elements.{All-push}
use Rattle.cell_arena.specs.declared.kinds.CellId.{CellId}
use Rattle.cell_merge.proofs.Edges.{sort-there}
use Rattle.word_blaster.proofs.Words.{WordBelow-later}
use Rattle.sequence_rewriter.proofs.Bits.{pushed-sequence}
use Rattle.sequence_rewriter.proofs.ends.push.Goals as goal

pub make_longer-requires-clause-below : goal.make_longer-requires-clause-below
make_longer-requires-clause-below c = rw c.as_slice.ensures.value (WordBelow-later _ _ c.in_ok-bits.bits.items c.in_ok-bits.ensures.below c.in_ok-places.ensures.grows.formula.vars)

pub make_longer-requires-clause-older : goal.make_longer-requires-clause-older
make_longer-requires-clause-older c =
    let there = sort-there _ c.requires.sort c.args.x c.requires.item in
    let g = c.in_ok-places.ensures.grows.longer in
    rw c.in_ok-push.ensures.items (All-push (λ (p : CellId). p.index < length c.replace_places.new.b.arena.kinds) c.in_ok-places.places.items c.args.x c.in_ok-places.ensures.replaces.there (omega arith))

pub returns-clause-made : goal.returns-clause-made
returns-clause-made c =
    pushed-sequence c.args.b.now _ _ _ _ _ _ c.in_ok-places.places.items _ c.requires c.in_ok-bits.ensures refl c.top.ensures.forced c.in_ok-places.ensures.replaces c.in_ok-push.ensures.items
    c.in_ok-places.ensures.grows c.in_ok-id.ensures.grows (rw c.as_slice.ensures.value at c.in_ok-id.ensures.made)
