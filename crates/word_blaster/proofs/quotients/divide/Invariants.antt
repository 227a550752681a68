use Rattle.std.proofs.Common.{◌≡◌, ◌+◌, ◌-◌, Bool, List, length, drop}
use Rattle.sat_formula.specs.Formula.{Grows, Satisfies}
use Rattle.word_blaster.specs.Word.{values, WordBelow}
use Rattle.word_blaster.specs.inner.Division.{IsDivided}
use Rattle.word_blaster.proofs.quotients.divide.Given as goal

abbrev pub invariant-loop-k : goal.invariant-loop-k
invariant-loop-k l = record {
  grows : Grows l.initial.f l.f;
  quotient_below : WordBelow l.f.vars l.quotient.items;
  rest_below : WordBelow l.f.vars l.rest.items;
  quotient_len : length l.quotient.items ≡ l.k + 1;
  rest_len : length l.rest.items + 1 ≡ length l.x;
  value : (a : List Bool) → Satisfies a l.f → IsDivided (values l.y a) (values (drop (length l.x - 1 - l.k) l.x) a) (values l.quotient.items a) (values l.rest.items a);
}
