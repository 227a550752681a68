use Rattle.std.proofs.Common.{sym}
use Rattle.sat_formula.proofs.Extension.{Satisfies-older, Grows-trans}
use Rattle.tla_values.specs.Order.{same_value}
use Rattle.cell_arena.specs.Decode.{decode}
use Rattle.cell_merge.proofs.Unions.{any-more}
use Rattle.set_rewriter.proofs.counting.stands_among.Goals as goal

pub loop-l-preserved : goal.loop-l-preserved
loop-l-preserved c =
    let k = c.args.arena.now in
    let i = c.loop-l.invariant in
    record {
      grows = Grows-trans _ _ _ i.grows (Grows-trans _ _ _ c.in_ok-one.ensures.grows (Grows-trans _ _ _ c.in_ok-holds.ensures.grows c.in_ok-any.ensures.grows));
      value = record {
        below = c.in_ok-any.ensures.value.below;
        value = λ a s3.
            let s2 = Satisfies-older _ _ a c.in_ok-any.ensures.grows s3 in
            let s1 = Satisfies-older _ _ a c.in_ok-holds.ensures.grows s2 in
            let s0 = Satisfies-older _ _ a c.in_ok-one.ensures.grows s1 in
            rw (c.in_ok-any.ensures.value.value a s3, c.in_ok-holds.ensures.value.value a s2, c.in_ok-one.ensures.value.value a s1, i.value.value a s0)
            (sym (any-more a (decode k a) (same_value (decode k a c.args.cell)) c.args.edges.now c.loop-l.l-index _ c.loop-l-test.true));
      };
    }
