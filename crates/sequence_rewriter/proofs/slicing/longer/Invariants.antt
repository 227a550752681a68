use Rattle.std.specs.Prelude.{◌≤◌, length}
use Rattle.sequence_rewriter.specs.inner.Cuts.{IsLonger}
use Rattle.sequence_rewriter.proofs.slicing.longer.Given as goal

abbrev pub invariant-loop-i : goal.invariant-loop-i
invariant-loop-i l = record {
  from : length l.bits ≤ l._i;
  longer : IsLonger l.formula l.bits l._i l.out.items;
}
