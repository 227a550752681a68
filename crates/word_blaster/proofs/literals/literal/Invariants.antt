use Rattle.std.proofs.Common.{◌≡◌, ◌^◌, Bool, List, length}
use Rattle.sat_formula.specs.Formula.{Satisfies}
use Rattle.word_blaster.specs.Word.{number, values, WordBelow}
use Rattle.word_blaster.proofs.Numerals.{IsSoFar}
use Rattle.word_blaster.proofs.literals.literal.Given as goal

abbrev pub invariant-loop-i : goal.invariant-loop-i
invariant-loop-i l = record {
  below : WordBelow l.f.vars l.lits.items;
  len : length l.lits.items ≡ l.i;
  value : (a : List Bool) → Satisfies a l.f → IsSoFar l.negative (number (values l.lits.items a)) l.initial.rest (2 ^ l.i) l.rest;
}
