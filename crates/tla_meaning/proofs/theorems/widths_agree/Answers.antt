use Rattle.tla_meaning.proofs.WidthLaw.{val_narrow, act_narrow, start_narrow, next_narrow, invariant_narrow, execution_narrow}
use Rattle.tla_meaning.proofs.theorems.widths_agree.Goals as goal

pub returns : goal.returns
returns c = record {
  values = val_narrow;
  actions = act_narrow;
  starts = start_narrow;
  steps = next_narrow;
  invariants = invariant_narrow;
  executions = execution_narrow;
}
