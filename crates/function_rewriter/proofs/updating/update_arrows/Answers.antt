use Rattle.std.proofs.Common.{false, arith}
use Rattle.sat_formula.specs.declared.lit.Lit.{Lit}
use Rattle.cell_arena.proofs.Growing.{Grows-refl, Grows-trans}
use Rattle.function_rewriter.proofs.Updates.{updates-none, updates-turn, updates-type, arrow-there}
use Rattle.function_rewriter.proofs.updating.update_arrows.Goals as goal

abbrev none-lit : Lit
none-lit = record { var = 0; neg = false }

pub loop-i-init : goal.loop-i-init
loop-i-init c = record { grows = Grows-refl _; updates = updates-none _ _ _ _ _ c.new-out.ensures.items }

pub arrow_at-arrow-requires : goal.arrow_at-arrow-requires
arrow_at-arrow-requires c =
    let r = arrow-there _ c.loop-i.b c.args.f c.args.v c.args.tests.now c.loop-i.i c.requires.types c.loop-i.invariant.grows c.loop-i-test.true c.requires.one_each in
    record { there = r.0; within = r.1 }

pub choose_cell-requires : goal.choose_cell-requires
choose_cell-requires c =
    let i = c.loop-i.invariant in
    let g = i.grows.formula.vars in
    let p = c.requires.named c.loop-i.i none-lit c.loop-i-test.true in
    record {
      below = omega arith;
      types = updates-type _ _ _ _ c.args.tests.now c.loop-i.i c.requires.types c.loop-i-test.true c.requires.one_each i.grows _ (c.arrow_at-arrow.ensures c.arrow_at-arrow.result);
    }

pub loop-i-preserved : goal.loop-i-preserved
loop-i-preserved c =
    let i = c.loop-i.invariant in
    record {
      grows = Grows-trans _ _ _ i.grows c.in_ok-chosen.ensures.grows;
      updates = updates-turn c.args.b.now _ _ _ c.args.v c.args.tests.now c.loop-i.i none-lit _ _ _ _ c.requires.types c.loop-i-test.true c.requires.one_each i.grows c.in_ok-chosen.ensures.grows
          (c.arrow_at-arrow.ensures c.arrow_at-arrow.result) i.updates c.in_ok-chosen.ensures.chosen c.in_ok-push.ensures.items;
    }
