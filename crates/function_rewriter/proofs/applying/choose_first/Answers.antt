use Rattle.std.proofs.Common.{◌-◌, false, length, arith}
use Rattle.sat_formula.specs.declared.lit.Lit.{Lit}
use Rattle.cell_arena.proofs.Growing.{Grows-refl, Grows-trans}
use Rattle.function_rewriter.proofs.Applies.{first-last, first-type, first-turn, function-there, place-there}
use Rattle.function_rewriter.proofs.applying.choose_first.Goals as goal

abbrev none-lit : Lit
none-lit = record { var = 0; neg = false }

pub arrow_at-last-requires : goal.arrow_at-last-requires
arrow_at-last-requires c = record { there = c.requires.function.is.0; within = let n = c.requires.one_each in let p = c.requires.some in omega arith }

pub loop-i-init : goal.loop-i-init
loop-i-init c = record {
  grows = Grows-refl _;
  first = first-last c.args.b.now c.args.f c.args.hits.now (length c.args.hits.now) _ (omega arith) c.requires.some c.requires.one_each (c.arrow_at-last.ensures c.arrow_at-last.result);
}

pub arrow_at-arrow-requires : goal.arrow_at-arrow-requires
arrow_at-arrow-requires c =
    let i = c.loop-i.invariant in
    record {
      there = function-there _ _ _ c.requires.function i.grows;
      within = place-there _ _ _ c.requires.function i.grows _ (length c.args.hits.now) (omega arith) c.requires.one_each;
    }

pub choose_cell-requires : goal.choose_cell-requires
choose_cell-requires c =
    let i = c.loop-i.invariant in
    let g = i.grows.formula.vars in
    let p = c.requires.named (length c.args.hits.now - 1 - c.loop-i.i) none-lit (omega arith) in
    record {
      below = omega arith;
      types = first-type _ _ _ c.args.hits.now c.loop-i.i c.requires.function i.grows (omega arith) c.loop-i-test.true c.requires.one_each _ (c.arrow_at-arrow.ensures c.arrow_at-arrow.result) _ i.first;
    }

pub loop-i-preserved : goal.loop-i-preserved
loop-i-preserved c =
    let i = c.loop-i.invariant in
    record {
      grows = Grows-trans _ _ _ i.grows c.in_ok-cell.ensures.grows;
      first = first-turn _ _ _ c.args.hits.now c.loop-i.i c.requires.function i.grows (omega arith) c.loop-i-test.true c.requires.one_each _ (c.arrow_at-arrow.ensures c.arrow_at-arrow.result) _ i.first
          _ none-lit _ c.in_ok-cell.ensures.grows c.in_ok-cell.ensures.chosen;
    }
