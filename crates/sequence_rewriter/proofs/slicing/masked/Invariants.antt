use Rattle.std.proofs.Common.{take}
use Rattle.sat_formula.specs.Formula.{Grows}
use Rattle.sequence_rewriter.specs.inner.Cuts.{IsMasked}
use Rattle.sequence_rewriter.proofs.slicing.masked.Given as goal

abbrev pub invariant-loop-bit : goal.invariant-loop-bit
invariant-loop-bit l = record {
  grows : Grows l.initial.formula l.formula;
  masked : IsMasked l.formula l.l (take l.bit-index l.bits) l.out.items;
}
