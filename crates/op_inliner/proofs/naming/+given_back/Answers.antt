use Rattle.std.proofs.Common.{◌∙◌, ap, refl}
use Rattle.op_inliner.specs.inner.Naming.{Pairs, child_back}
use Rattle.op_inliner.proofs.NamingSteps.{back_is, backs_step}
use Rattle.op_inliner.proofs.naming.+given_back.Goals as goal

pub all_given_back-loop-i-preserved : goal.all_given_back-loop-i-preserved
all_given_back-loop-i-preserved t c = record {
  pairs = c.in_ok-child_given_back.ensures.kept ∙ c.loop-i.invariant.pairs;
  back =
      backs_step c.args.binder.now c.args.trees.now c.loop-i.all.items c.push.new.self.items c.loop-i.i c.index-trees-i.result c.in_ok-child_given_back.field-0 c.args.pairs.now.items c.loop-i-test.true
      c.index-trees-i.is c.loop-i.invariant.back c.in_ok-push.ensures.items
      (c.in_ok-child_given_back.ensures.back
      ∙ ap (λ (ps : Pairs). child_back c.is_marked-marked.result c.index-trees-i.result c.args.binder.now ps) c.loop-i.invariant.pairs
      ∙ ap (λ b. child_back b c.index-trees-i.result c.args.binder.now c.args.pairs.now.items) c.is_marked-marked.ensures);
}

pub given_back-returns-clause-back : goal.given_back-returns-clause-back
given_back-returns-clause-back t c =
    back_is c.args.e.now _ c.in_ok-op.op c.in_ok-marked.marked.items c.as_slice-trees.result.now c.in_ok-args.args c.in_ok-binds.binds
    (record { names = c.as_slice-names.result; new_names = c.as_slice-new_names.result; marks = c.as_slice-marks.result }) c.args.pairs.now.items c.as_slice-around.result.now
    c.as_slice-around.ensures.value c.in_ok-op.ensures c.in_ok-marked.ensures c.as_slice-names.ensures c.in_ok-binds.ensures c.as_slice-marks.ensures.value c.as_slice-new_names.ensures
    c.as_slice-trees.ensures c.in_ok-args.ensures.back refl
