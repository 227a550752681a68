use Rattle.std.proofs.lemmas.Int.{to_z-of_z}
use mir.Syntax.{w128}
use Rattle.tla_evaluator.proofs.NumberLemmas.{in_more, left_less}
use Rattle.tla_evaluator.proofs.RowLemmas.{range_push, range_whole}
use Rattle.tla_evaluator.proofs.numbers.numbers_between.Goals as goal

pub loop-n-preserved : goal.loop-n-preserved
loop-n-preserved c = record {
  same = range_push _ _ _ _ _ _ _ c.loop-n.invariant.same c.in-Some.ensures.some.0 c.len.ensures c.in_ok-push.ensures.items c.in_ok-push.ensures.len;
  within = in_more _ _ _ _ _ c.in-Some.ensures.some.1 c.len.ensures c.in_ok-push.ensures.len;
}

pub loop-n-smaller : goal.loop-n-smaller
loop-n-smaller c = left_less _ _ _ _ _ c.in-Some.ensures.some.1 c.len.ensures c.in_ok-push.ensures.len

pub returns : goal.returns
returns c =
    range_whole _ _ _ _ _ _ _ _ (to_z-of_z w128 c.args.a c.ranges.a) (to_z-of_z w128 c.args.b c.ranges.b) c.loop-n.invariant.same
    c.loop-n.invariant.within c.len.ensures c.in_default.ensures.none c.from_vec.ensures
