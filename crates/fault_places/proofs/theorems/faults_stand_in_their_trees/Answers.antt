use Rattle.fault_places.proofs.Placed.{action_placed, each_placed, invariant_placed, next_placed, start_placed, value_placed}
use Rattle.fault_places.proofs.theorems.faults_stand_in_their_trees.Goals as goal

pub returns : goal.returns
returns c = record {
  values = value_placed;
  actions = action_placed;
  starts = start_placed;
  steps = next_placed;
  invariants = invariant_placed;
  each = each_placed;
}
