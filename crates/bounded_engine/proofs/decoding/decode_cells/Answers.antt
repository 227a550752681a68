use Rattle.std.proofs.Common.{◌≡◌, map}
use Rattle.cell_arena.specs.Decode.{decode}
use Rattle.tla_meaning.specs.declared.job.State.{State}
use Rattle.bounded_engine.specs.inner.Finding.{IsDecoded}
use Rattle.bounded_engine.proofs.AtStates.{if_ok_more}
use Rattle.bounded_engine.proofs.Cells.{cells_there}
use Rattle.bounded_engine.proofs.Decoded.{decoded}
use Rattle.bounded_engine.proofs.decoding.decode_cells.Goals as goal

pub decode_state-requires : goal.decode_state-requires
decode_state-requires c = cells_there c.args.encoder.now c.args.cells.now c.requires.encoder c.requires.cells

pub returns : goal.returns
returns c =
    if_ok_more c.decode_state.result (λ (s : State). s.vals ≡ map (decode c.args.encoder.now.build.arena c.args.assignment.now) c.args.cells.now)
    (IsDecoded c.args.encoder.now c.args.cells.now c.args.assignment.now) c.decode_state.ensures
    (λ s values.
    decoded c.args.encoder.now c.args.cells.now c.args.assignment.now s c.requires.encoder c.requires.cells
    c.decoded_values_have_their_types.ensures.states values)
