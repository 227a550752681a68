use Rattle.std.proofs.Common.{◌≡◌, ◌≤◌, length}
use Rattle.word_blaster.specs.Word.{WordBelow}
use Rattle.formula_tests.proofs.circuits.fixed.Given as goal

abbrev pub invariant-loop-bit : goal.invariant-loop-bit
invariant-loop-bit l = record {
  grown : l.initial.f.vars ≤ l.f.vars;
  below : WordBelow l.f.vars l.lits.items;
  width : length l.lits.items ≡ l.bit-index;
}
