use Rattle.std.proofs.Common.{ap, length, arith, List}
use Rattle.cell_arena.specs.declared.kinds.CellId.{CellId}
use Rattle.cell_arena.proofs.Growing.{Grows-trans}
use Rattle.word_blaster.proofs.Words.{WordBelow-later}
use Rattle.sequence_rewriter.proofs.Bits.{few-places, types-later, places-later, replaces-more}
use Rattle.sequence_rewriter.proofs.replacing.replace_places.Goals as goal

pub replace_place-requires : goal.replace_place-requires
replace_place-requires c =
    let i = c.loop-p.invariant in
    let g = i.grows.formula.vars in
    let n = c.part_count-p-end.ensures in
    let few = few-places c.args.b.now c.args.s (record { sort = c.requires.types.sort; is = c.requires.types.sequence }) in
    let same = ap (λ (ps : List CellId). length ps) (places-later _ _ _ _ c.requires.types i.grows) in
    record {
      bits = WordBelow-later _ _ c.args.index.now.bits.items c.requires.bits g;
      valid = let v = c.requires.valid in omega arith;
      small = let f = c.requires.small in omega arith;
      types = types-later _ _ _ _ c.requires.types i.grows;
      within = omega arith;
    }

pub loop-p-preserved : goal.loop-p-preserved
loop-p-preserved c =
    let i = c.loop-p.invariant in
    let n = c.part_count-p-end.ensures in
    record {
      grows = Grows-trans _ _ _ i.grows c.in_ok-place.ensures.grows;
      replaces = replaces-more _ _ _ c.args.index.now _ _ _ c.loop-p.p _ _ c.requires.types (omega arith) i.replaces i.grows c.in_ok-place.ensures.grows c.in_ok-place.ensures.replaces c.in_ok-push.ensures.items;
    }
