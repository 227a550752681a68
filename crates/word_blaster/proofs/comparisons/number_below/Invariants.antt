use Rattle.std.proofs.Common.{take}
use Rattle.std.specs.Prelude.{nat_lt}
use Rattle.sat_formula.specs.Formula.{Grows, HasValue}
use Rattle.word_blaster.specs.Word.{number, values}
use Rattle.word_blaster.proofs.comparisons.number_below.Given as goal

abbrev pub invariant-loop-i : goal.invariant-loop-i
invariant-loop-i l = record {
  grows : Grows l.initial.f l.f;
  value : HasValue l.f l.below (λ a. nat_lt (number (values (take l.i l.x) a)) (number (values (take l.i l.y) a)));
}
