use Rattle.std.proofs.Common.{sym, ◌∙◌}
use Rattle.tla_meaning.proofs.Views.{false≢true}
use Rattle.op_inliner.proofs.CheckSteps.{no_levels, one_past, one_within, within_node}
use Rattle.op_inliner.proofs.checks.+has_levels.Goals as goal

pub all_have_levels-returns-then-not-has_levels : goal.all_have_levels-returns-then-not-has_levels
all_have_levels-returns-then-not-has_levels t c = (
  λ f. absurd (false≢true f),
  λ l. absurd (one_past c.args.levels c.args.trees.now c.loop-e.e-index c.e-item.result c.loop-e-test.true c.e-item.is
      (λ d. false≢true (sym c.if-not-has_levels.true ∙ c.has_levels.ensures.1 d)) l),
)

pub all_have_levels-loop-e-preserved : goal.all_have_levels-loop-e-preserved
all_have_levels-loop-e-preserved t c =
    one_within c.args.levels c.args.trees.now c.loop-e.e-index c.e-item.result c.loop-e-test.true c.e-item.is (c.has_levels.ensures.0 c.if-not-has_levels.false) c.loop-e.invariant

pub has_levels-returns-then-levels-gt0 : goal.has_levels-returns-then-levels-gt0
has_levels-returns-then-levels-gt0 t c = within_node c.args.e.now c.as_slice.result.now c.args.levels c.all_have_levels.result c.if-levels-gt0.true c.as_slice.ensures c.all_have_levels.ensures

pub has_levels-returns-else-levels-gt0 : goal.has_levels-returns-else-levels-gt0
has_levels-returns-else-levels-gt0 t c = no_levels c.args.e.now c.args.levels c.if-levels-gt0.false
