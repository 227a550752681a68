use Rattle.std.proofs.Common.{◌≡◌, ◌≤◌, ◌-◌, length, take}
use Rattle.std.specs.Io.KnownBytes.{Appends}
use Rattle.symbolic_mc.proofs.lines.write_lines.Given as goal

abbrev pub invariant-lines : goal.invariant-lines
invariant-lines g l = record {
  within : l.at ≤ length l.bytes;
  written : Appends (g.K.Sink.written l.initial.out) (g.K.Sink.written l.out) (take l.at l.bytes);
  no_fault : g.K.Sink.faults l.out ≡ g.K.Sink.faults l.initial.out;
}

abbrev pub decreases-lines : goal.decreases-lines
decreases-lines g l = length l.bytes - l.at
