use Rattle.std.proofs.Common.{◌≡◌, ℕ, ◌+◌, ◌*◌, ◌≤◌, List, length}
use Rattle.tla_values.specs.declared.value.Value.{Value, Fun}
use Rattle.trace_text.specs.inner.Pieces.{ArePieces, pieces_text}
use Rattle.trace_text.specs.inner.Reading.{Fits}
use Rattle.trace_text.proofs.Pieces.{Left}
use Rattle.trace_text.proofs.reading.+read_value.Given as goal

abbrev pub decreases-read_argument : goal.decreases-read_argument
decreases-read_argument l = 4 * l.depth + 1

abbrev pub decreases-read_piece : goal.decreases-read_piece
decreases-read_piece l = 4 * l.depth + 2

abbrev pub decreases-read_pieces : goal.decreases-read_pieces
decreases-read_pieces l = 4 * l.depth + 3

abbrev pub decreases-read_value : goal.decreases-read_value
decreases-read_value l = 4 * l.depth

abbrev pub invariant-read_pieces-pieces : goal.invariant-read_pieces-pieces
invariant-read_pieces-pieces l = record {
  reads : (ps : List (Value × Value)) (r : List ℕ) → ArePieces l.bracket 0 ps → l.bytes ≡ pieces_text l.bracket ps r → Left l.bracket l.pieces l.rest ps r;
  fits : Fits (Fun l.pieces);
  shorter : length l.rest ≤ length l.bytes;
}

abbrev pub decreases-read_pieces-pieces : goal.decreases-read_pieces-pieces
decreases-read_pieces-pieces l = length l.rest
