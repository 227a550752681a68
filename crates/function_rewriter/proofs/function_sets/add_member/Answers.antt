use Rattle.std.proofs.Common.{arith}
use Rattle.cell_merge.proofs.Edges.{negated-value}
use Rattle.function_rewriter.proofs.FunctionListings.{member-adds, choices-later, one-named}
use Rattle.function_rewriter.proofs.function_sets.add_member.Goals as goal

pub add_front-requires : goal.add_front-requires
add_front-requires c =
    let g = c.in_ok-there.ensures.grows.vars in
    let p = c.requires.edge_below in
    record {
      below = c.in_ok-there.ensures.value.below;
      front_named = rw c.as_slice.ensures.value (one-named _ _ _ c.in_ok-front.ensures (omega arith));
      named = choices-later _ _ c.args.choices.now c.requires.named g;
      out_named = choices-later _ _ c.args.out.now.items c.requires.out_named g;
    }

pub returns-clause-adds : goal.returns-clause-adds
returns-clause-adds c =
    member-adds _ _ _ _ c.negated.result _ _ _ _ _ c.in_ok-front.ensures c.in_ok-add_front.ensures.grows (λ a. negated-value _ _ a c.negated.ensures) c.in_ok-there.ensures.value
    (rw c.as_slice.ensures.value at c.in_ok-add_front.ensures.adds)
