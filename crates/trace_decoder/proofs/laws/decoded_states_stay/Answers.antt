use Rattle.trace_decoder.proofs.States.{state-stays}
use Rattle.trace_decoder.proofs.laws.decoded_states_stay.Goals as goal

pub returns : goal.returns
returns c = state-stays
