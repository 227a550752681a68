use Rattle.function_rewriter.proofs.ArrowPairs.{ArrowsNamed-later}
use Rattle.function_rewriter.proofs.Applies.{outside-value, hits-are, hits-later}
use Rattle.function_rewriter.proofs.applying.find.Goals as goal

pub and_each-requires : goal.and_each-requires
and_each-requires c =
    let m = c.in_ok-tests.ensures.matches in
    rw c.as_slice.ensures.value (record { one_each = m.count; arrows_named = ArrowsNamed-later _ _ c.args.arrows.now c.requires.arrows.named c.in_ok-tests.ensures.grows.vars; tests_named = m.named })

pub none_of-requires : goal.none_of-requires
none_of-requires c = record { named = rw c.as_slice-found.ensures.value c.in_ok-hits.ensures.ands.named }

pub returns-clause-outside : goal.returns-clause-outside
returns-clause-outside c =
    let hits = hits-are _ _ _ _ _ _ _ c.in_ok-tests.ensures.matches c.in_ok-hits.ensures.grows (rw c.as_slice.ensures.value at c.in_ok-hits.ensures.ands) in
    outside-value _ _ _ _ _ _ _ hits c.in_ok-outside.ensures.grows (rw c.as_slice-found.ensures.value at c.in_ok-outside.ensures.value)

pub returns-clause-hits : goal.returns-clause-hits
returns-clause-hits c = hits-later _ _ _ _ _ _ _ (hits-are _ _ _ _ _ _ _ c.in_ok-tests.ensures.matches c.in_ok-hits.ensures.grows (rw c.as_slice.ensures.value at c.in_ok-hits.ensures.ands)) c.in_ok-outside.ensures.grows
