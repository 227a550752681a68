use Rattle.std.proofs.Common.{◌≤◌, ◌-◌, length, take}
use Rattle.std.specs.Io.KnownBytes.{Appends}
use Rattle.tool_outside.proofs.host_sink.write_piece.Given as goal

abbrev pub invariant-pieces : goal.invariant-pieces
invariant-pieces g l = record {
  within : l.at ≤ length l.piece;
  written : Appends (g.W.Write.contents l.initial.out) (g.W.Write.contents l.out) (take l.at l.piece);
}

abbrev pub decreases-pieces : goal.decreases-pieces
decreases-pieces g l = length l.piece - l.at
