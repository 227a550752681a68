use Rattle.std.proofs.Common.{arith}
use Rattle.std.proofs.lemmas.List.{get_or_default}
use Rattle.cell_arena.proofs.Growing.{Grows-refl, Grows-trans}
use Rattle.sequence_rewriter.proofs.Moves.{list-types, lists-later, chosen-none, chosen-more}
use Rattle.sequence_rewriter.proofs.shifts.choose_list.Goals as goal

pub loop-i-init : goal.loop-i-init
loop-i-init c = record { grows = Grows-refl _; chosen = chosen-none _ _ _ _ _ c.new-out.ensures.items }

pub choose_cell-requires-clause-types : goal.choose_cell-requires-clause-types
choose_cell-requires-clause-types c = list-types _ c.args.xs.now c.args.ys.now c.loop-i.i _ _ (lists-later _ _ _ _ c.requires.types c.loop-i.invariant.grows) c.loop-i-test.true c.requires.count

pub loop-i-preserved : goal.loop-i-preserved
loop-i-preserved c =
    let i = c.loop-i.invariant in
    record {
      grows = Grows-trans _ _ _ i.grows c.in_ok-cell.ensures.grows;
      chosen = chosen-more _ _ _ c.args.l c.args.xs.now c.args.ys.now c.loop-i.i _ _ _ _ _ c.requires.types c.requires.count c.loop-i-test.true (get_or_default c.args.xs.now c.loop-i.i _ _ c.loop-i-test.true) (let n = c.requires.count in let lt = c.loop-i-test.true in get_or_default c.args.ys.now c.loop-i.i _ _ (omega arith)) i.chosen i.grows c.in_ok-cell.ensures.grows c.in_ok-cell.ensures.chosen c.in_ok-push.ensures.items;
    }
