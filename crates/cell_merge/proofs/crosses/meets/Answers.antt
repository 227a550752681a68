use Rattle.std.proofs.Common.{◌<◌, length, sym, arith}
use Rattle.sat_formula.proofs.Extension.{Satisfies-older, Grows-trans}
use Rattle.cell_merge.proofs.Along.{both-more}
use Rattle.cell_merge.proofs.crosses.meets.Goals as goal

pub loop-i-preserved : goal.loop-i-preserved
loop-i-preserved c =
    let i = c.loop-i.invariant in
    let lt : c.loop-i.i < length c.args.xs.now = omega arith in
    let le : c.loop-i.i < length c.args.ys.now = let n = c.requires.same in omega arith in
    record {
      grows = Grows-trans _ _ _ i.grows (Grows-trans _ _ _ c.in_ok-both.ensures.grows c.in_ok-any.ensures.grows);
      value = record {
        below = c.in_ok-any.ensures.value.below;
        value = λ a s.
            let s1 = Satisfies-older _ _ a c.in_ok-any.ensures.grows s in
            let s0 = Satisfies-older _ _ a c.in_ok-both.ensures.grows s1 in
            rw (c.in_ok-any.ensures.value.value a s, c.in_ok-both.ensures.value.value a s1, i.value.value a s0) (sym (both-more c.args.xs.now c.args.ys.now a c.loop-i.i _ _ lt le));
      };
    }
