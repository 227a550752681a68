use Rattle.std.proofs.Common.{◌∙◌, sym, arith}
use Rattle.sat_formula.proofs.Extension.{Satisfies-older, Grows-trans}
use Rattle.tla_values.specs.Order.{same_value}
use Rattle.cell_arena.specs.Decode.{decode}
use Rattle.cell_merge.proofs.Edges.{member-all}
use Rattle.cell_merge.proofs.Unions.{any-more}
use Rattle.cell_merge.proofs.equality.member_in.Goals as goal

pub loop-l-preserved : goal.loop-l-preserved
loop-l-preserved c =
    let k = c.args.arena.now in
    record {
      grows = Grows-trans _ _ _ c.loop-l.invariant.grows (Grows-trans _ _ _ c.in_ok-one.ensures.grows (Grows-trans _ _ _ c.in_ok-holds.ensures.grows c.in_ok-any.ensures.grows));
      value = record {
        below = c.in_ok-any.ensures.value.below;
        value = λ a s3.
            let s2 = Satisfies-older _ _ a c.in_ok-any.ensures.grows s3 in
            let s1 = Satisfies-older _ _ a c.in_ok-holds.ensures.grows s2 in
            let s0 = Satisfies-older _ _ a c.in_ok-one.ensures.grows s1 in
            rw (c.in_ok-any.ensures.value.value a s3, c.in_ok-holds.ensures.value.value a s2, c.in_ok-one.ensures.value.value a s1, c.loop-l.invariant.value.value a s0)
            (sym (any-more a (decode k a) (same_value (decode k a c.args.x)) c.as_slice-l-items.result.now c.loop-l.l-index _ c.loop-l-test.true));
      };
    }

pub returns-after-loop-l-clause-value : goal.returns-after-loop-l-clause-value
returns-after-loop-l-clause-value c = record {
  below = c.loop-l.invariant.value.below;
  value = λ a s. c.loop-l.invariant.value.value a s ∙ member-all c.args.arena.now a c.args.x c.args.set _ c.in-Set.edges _ c.loop-l.l-index (c.kind.ensures.decodes a) c.in-Set.is c.as_slice-l-items.ensures (omega arith);
}
