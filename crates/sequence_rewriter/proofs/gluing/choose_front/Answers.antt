use Rattle.std.proofs.lemmas.List.{get_or_default}
use Rattle.cell_arena.proofs.Growing.{Grows-refl, Grows-trans}
use Rattle.word_blaster.proofs.Words.{WordBelow-later}
use Rattle.sequence_rewriter.proofs.Fronts.{front-none, front-types, front-more}
use Rattle.sequence_rewriter.proofs.gluing.choose_front.Goals as goal

pub loop-p-init : goal.loop-p-init
loop-p-init c = record { grows = Grows-refl _; front = front-none _ _ _ _ _ c.new-out.ensures.items }

pub front_cell-requires-clause-below : goal.front_cell-requires-clause-below
front_cell-requires-clause-below c = WordBelow-later _ _ c.args.bits.now c.requires.below c.loop-p.invariant.grows.formula.vars

pub front_cell-requires-clause-types : goal.front_cell-requires-clause-types
front_cell-requires-clause-types c = front-types _ _ c.args.xs.now c.args.ys.now c.loop-p.p _ c.requires.types c.loop-p.invariant.grows c.loop-p-test.true (get_or_default c.args.ys.now c.loop-p.p _ _ c.loop-p-test.true)

pub loop-p-preserved : goal.loop-p-preserved
loop-p-preserved c =
    let i = c.loop-p.invariant in
    record {
      grows = Grows-trans _ _ _ i.grows c.in_ok-cell.ensures.grows;
      front = front-more _ _ _ c.args.bits.now c.args.xs.now c.args.ys.now c.loop-p.p _ _ _ _ c.requires.types c.loop-p-test.true (get_or_default c.args.ys.now c.loop-p.p _ _ c.loop-p-test.true) i.front i.grows c.in_ok-cell.ensures.grows
          c.in_ok-cell.ensures.front c.in_ok-push.ensures.items;
    }
