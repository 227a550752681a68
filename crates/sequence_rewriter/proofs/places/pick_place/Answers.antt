use Rattle.std.proofs.Common.{◌≡◌, ℕ, ap, subst, arith, length, List}
use Rattle.cell_arena.specs.declared.kinds.CellId.{CellId}
use Rattle.cell_arena.proofs.Growing.{Grows-refl, Grows-trans, kind-before}
use Rattle.cell_merge.specs.Composites.{parts_of}
use Rattle.cell_merge.proofs.SortLaws.{OfSort-later}
use Rattle.cell_merge.specs.Sorts.{sequence_of}
use Rattle.word_blaster.proofs.Words.{WordBelow-later}
use Rattle.sequence_rewriter.specs.inner.Lengths.{PicksPlace, places_of}
use Rattle.sequence_rewriter.proofs.Bits.{few-places}
use Rattle.sequence_rewriter.proofs.Numbers.{picks-first, picks-next}
use Rattle.sequence_rewriter.proofs.places.pick_place.Goals as goal

pub loop-p-init : goal.loop-p-init
loop-p-init c = record { grows = Grows-refl _; picks = picks-first c.args.b.now c.args.index.now c.args.s _ c.requires.sequence c.requires.some c.part_at-picked.ensures.part }

pub pick_more-requires : goal.pick_more-requires
pick_more-requires c =
    let i = c.loop-p.invariant in
    let g = i.grows.formula.vars in
    let n = c.part_count-p-end.ensures in
    let q = c.requires.sequence in
    let few = few-places c.args.b.now c.args.s q in
    let same = ap (λ (ps : List CellId). length ps) (ap parts_of (kind-before _ _ c.args.s i.grows q.is.0)) in
    record {
      bits = WordBelow-later _ _ c.args.index.now.bits.items c.requires.bits g;
      valid = let v = c.requires.valid in omega arith;
      small = let f = c.requires.small in omega arith;
      types = record { sort = q.sort; sequence = OfSort-later _ _ (sequence_of q.sort) c.args.s q.is i.grows; item = i.picks.sort q.sort q.is };
      within = omega arith;
    }

pub loop-p-preserved : goal.loop-p-preserved
loop-p-preserved c =
    let i = c.loop-p.invariant in
    let n = c.part_count-p-end.ensures in
    record {
      grows = Grows-trans _ _ _ i.grows c.in_ok-more.ensures.grows;
      picks = picks-next _ _ _ c.args.index.now c.args.s _ _ c.loop-p.p c.requires.sequence (omega arith) i.picks i.grows c.in_ok-more.ensures.grows (ap parts_of (kind-before _ _ c.args.s i.grows c.requires.sequence.is.0)) c.in_ok-more.ensures.picks;
    }

pub returns-clause-picks : goal.returns-clause-picks
returns-clause-picks c =
    let n = c.part_count-p-end.ensures in
    let some = c.requires.some in
    let to = c.loop-p.auto.p-end (omega arith) in
    let from = c.loop-p-test.false in
    let e : c.loop-p.p ≡ length (places_of c.args.b.now.arena c.args.s) = omega arith in
    subst (λ (m : ℕ). PicksPlace c.args.b.now c.loop-p.b c.args.index.now c.args.s m c.loop-p.picked) e c.loop-p.invariant.picks
