use Rattle.std.proofs.Common.{subst}
use Rattle.rewriting_tests.proofs.TreesAmong.{tree-among, trees-all, trees-more}
use Rattle.rewriting_tests.proofs.texts.+is_tree_among.Goals as goal

pub returns : goal.returns
returns t c = λ h.
    tree-among _ _ _ (c.is_op_among.ensures c.if-not-is_op_among.false) (c.is_type_among.ensures c.if-not-is_type_among.false)
    c.as_slice-args.ensures (trees-all _ _ _ c.loop-i-test.false c.loop-i.invariant)

pub loop-i-init : goal.loop-i-init
loop-i-init t c = tt

pub loop-i-preserved : goal.loop-i-preserved
loop-i-preserved t c =
    trees-more _ _ _ _ c.loop-i-test.true c.index-args-i.is c.loop-i.invariant
    (c.is_tree_among.ensures c.if-not-is_tree_among.false)
