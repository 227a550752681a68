use Rattle.std.proofs.Common.{◌∙◌, ap, arith, not}
use Rattle.std.proofs.lemmas.List.{get_or_default}
use Rattle.sat_formula.proofs.Extension.{Grows-trans, Satisfies-older}
use Rattle.cell_merge.proofs.Unions.{joining-rest, named-at}
use Rattle.cell_merge.proofs.Edges.{negated-value}
use Rattle.sat_formula.specs.declared.lit.Lit.{Lit}
use Rattle.cell_merge.proofs.merging.merge_distinct.Goals as goal

pub join_onto-requires-clause-first_below : goal.join_onto-requires-clause-first_below
join_onto-requires-clause-first_below c =
    let v = ap (λ (l : Lit). l.var) c.negated-none.ensures in
    let b = c.top.ensures.below in
    let g = c.loop-l.invariant.grows.vars in
    omega arith

pub join_onto-requires-clause-second_below : goal.join_onto-requires-clause-second_below
join_onto-requires-clause-second_below c =
    named-at _ _ _ _ _ (rw (← c.as_slice-l-items.ensures.value) at c.in_ok-out.ensures.joining.rest_named) c.loop-l-test.true c.loop-l.invariant.grows.vars

pub loop-l-preserved : goal.loop-l-preserved
loop-l-preserved c =
    let i = c.loop-l.invariant in
    record {
      grows = Grows-trans _ _ _ i.grows c.in_ok-join_onto.ensures.grows;
      joining = joining-rest _ _ _ _ _ _ c.as_slice-l-items.result.now _ _ _ _ _ c.loop-l-test.true (get_or_default _ _ _ _ c.loop-l-test.true) i.joining
          (c.in_ok-join_onto.ensures.joins c.args.arena.now.kinds) c.in_ok-join_onto.ensures.grows
          (λ a s. negated-value _ _ a c.negated-none.ensures
          ∙ ap not (c.top.ensures.forced a (Satisfies-older _ _ a (Grows-trans _ _ _ i.grows c.in_ok-join_onto.ensures.grows) s)));
    }
