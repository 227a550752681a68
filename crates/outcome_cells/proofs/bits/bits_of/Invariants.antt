use Rattle.std.proofs.Common.{take}
use Rattle.outcome_cells.specs.Bits.{AreBits}
use Rattle.outcome_cells.proofs.bits.bits_of.Given as goal

abbrev pub invariant-loop-x : goal.invariant-loop-x
invariant-loop-x l = record {
  bits : AreBits l.arena (take l.x-index l.xs) l.bits.items;
}
