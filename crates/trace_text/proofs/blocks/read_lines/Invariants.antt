use Rattle.std.proofs.Common.{◌+◌, ◌≤◌, length, take}
use Rattle.trace_text.specs.Blocks.{BeginsWith}
use Rattle.trace_text.proofs.blocks.read_lines.Given as goal

abbrev pub invariant-loop-i : goal.invariant-loop-i
invariant-loop-i l = record {
  begins : BeginsWith (take l.i l.names) l.bytes (record { vals = l.values }) l.rest;
  room : l.i + length l.rest ≤ length l.bytes;
}
