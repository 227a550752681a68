use Rattle.trace_decoder.proofs.States.{decoded-state}
use Rattle.trace_decoder.proofs.laws.decoded_states_are_normal.Goals as goal

pub returns : goal.returns
returns c = decoded-state
