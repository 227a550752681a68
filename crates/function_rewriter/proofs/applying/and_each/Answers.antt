use Rattle.std.proofs.Common.{◌<◌, false, length, arith}
use Rattle.sat_formula.specs.declared.lit.Lit.{Lit}
use Rattle.sat_formula.proofs.Extension.{Grows-refl, Grows-trans}
use Rattle.cell_arena.specs.declared.kinds.CellId.{CellId}
use Rattle.function_rewriter.proofs.Applies.{ands-none, ands-push}
use Rattle.function_rewriter.proofs.applying.and_each.Goals as goal

abbrev none-lit : Lit
none-lit = record { var = 0; neg = false }

abbrev none-arrow : Lit × CellId × CellId
none-arrow = (none-lit, record { index = 0 }, record { index = 0 })

pub loop-i-init : goal.loop-i-init
loop-i-init c = record { grows = Grows-refl _; ands = ands-none _ _ _ _ c.new-hits.ensures.items }

pub and-requires : goal.and-requires
and-requires c =
    let g = c.loop-i.invariant.grows.vars in
    let le : c.loop-i.i < length c.args.tests.now = omega arith in
    let p = c.requires.arrows_named c.loop-i.i none-arrow c.loop-i-test.true in
    let q = c.requires.tests_named c.loop-i.i none-lit le in
    record { x_below = omega arith; y_below = omega arith }

pub loop-i-preserved : goal.loop-i-preserved
loop-i-preserved c =
    let i = c.loop-i.invariant in
    let le : c.loop-i.i < length c.args.tests.now = omega arith in
    record {
      grows = Grows-trans _ _ _ i.grows c.in_ok-hit.ensures.grows;
      ands = ands-push _ _ c.args.arrows.now c.loop-i.i _ _ _ _ c.loop-i-test.true c.in_ok-hit.ensures.grows c.in_ok-push.ensures.items c.args.tests.now _ le i.ands c.in_ok-hit.ensures.value;
    }
