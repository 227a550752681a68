use Rattle.sat_formula.specs.Formula.{Grows}
use Rattle.set_rewriter.specs.inner.Steps.{FreeBits}
use Rattle.set_rewriter.proofs.powersets.free_bits.Given as goal

abbrev pub invariant-loop-i : goal.invariant-loop-i
invariant-loop-i l = record {
  grows : Grows l.fn.formula l.formula;
  bits : FreeBits l.fn.formula l.formula l._i l.bits.items;
}
