use Rattle.std.proofs.Common.{◌≡◌, ◌≤◌, Bool, length, List}
use Rattle.sat_formula.specs.Formula.{Satisfies}
use Rattle.word_blaster.specs.Word.{number, values, WordBelow}
use Rattle.word_blaster.proofs.naturals.natural.Given as goal

abbrev pub invariant-loop-i : goal.invariant-loop-i
invariant-loop-i l = record {
  below : WordBelow l.f.vars l.bits.items;
  long : l._i ≤ length l.bits.items;
  value : (a : List Bool) → Satisfies a l.f → number (values l.bits.items a) ≡ number (values l.x a);
}
