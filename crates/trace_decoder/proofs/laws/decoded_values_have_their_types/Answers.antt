use Rattle.trace_decoder.proofs.TypedCells.{all-typed, typed}
use Rattle.trace_decoder.proofs.laws.decoded_values_have_their_types.Goals as goal

pub returns-clause-cells : goal.returns-clause-cells
returns-clause-cells c = λ b t k id a e h. typed b.arena b.built a t k e id (h.sort k e)

pub returns-clause-states : goal.returns-clause-states
returns-clause-states c = λ b ts ks ids a e h. all-typed b.arena b.built a ts ks ids e h
