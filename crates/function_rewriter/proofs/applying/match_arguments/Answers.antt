use Rattle.std.proofs.Common.{false, arith}
use Rattle.sat_formula.specs.declared.lit.Lit.{Lit}
use Rattle.cell_arena.specs.declared.kinds.CellId.{CellId}
use Rattle.sat_formula.proofs.Extension.{Grows-refl, Grows-trans}
use Rattle.cell_merge.proofs.Names.{IsOver-later}
use Rattle.function_rewriter.proofs.Applies.{matches-none, matches-push, argument-type}
use Rattle.function_rewriter.proofs.applying.match_arguments.Goals as goal

abbrev none-arrow : Lit × CellId × CellId
none-arrow = (record { var = 0; neg = false }, record { index = 0 }, record { index = 0 })

pub loop-arrow-init : goal.loop-arrow-init
loop-arrow-init c = record { grows = Grows-refl _; matches = matches-none _ _ _ _ _ c.new-tests.ensures.items }

pub match_argument-requires : goal.match_argument-requires
match_argument-requires c =
    let i = c.loop-arrow.invariant in
    record {
      over = IsOver-later _ _ _ c.requires.over i.grows;
      types = argument-type _ _ c.args.arrows.now _ c.loop-arrow.arrow-index _ c.requires.arrows c.loop-arrow-test.true;
      below = let p = c.requires.arrows.named c.loop-arrow.arrow-index none-arrow c.loop-arrow-test.true in let q = i.grows.vars in omega arith;
    }

pub loop-arrow-preserved : goal.loop-arrow-preserved
loop-arrow-preserved c =
    let i = c.loop-arrow.invariant in
    record {
      grows = Grows-trans _ _ _ i.grows c.in_ok-test.ensures.grows;
      matches = matches-push _ _ _ c.args.arrows.now _ c.loop-arrow.arrow-index _ _ _ _ c.loop-arrow-test.true c.in_ok-test.ensures.grows c.in_ok-push.ensures.items i.matches c.in_ok-test.ensures.test;
    }
