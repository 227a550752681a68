use Rattle.std.proofs.Common.{◌≡◌, map, take}
use Rattle.cell_arena.specs.Decode.{decode}
use Rattle.trace_decoder.specs.inner.Known.{AreKnown}
use Rattle.trace_decoder.proofs.decoding.decode_state.Given as goal

abbrev pub invariant-loop-id : goal.invariant-loop-id
invariant-loop-id l =
    AreKnown l.decoder l.known × (l.values.items ≡ map (decode l.b.arena l.a) (take l.id-index l.cells))
