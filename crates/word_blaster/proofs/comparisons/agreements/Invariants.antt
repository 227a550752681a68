use Rattle.std.proofs.Common.{◌≡◌, Bool, List, take}
use Rattle.std.specs.Prelude.{◌==◌}
use Rattle.std.specs.List.{list_all}
use Rattle.sat_formula.specs.Lit.{lit_value}
use Rattle.sat_formula.specs.Formula.{Grows, Satisfies}
use Rattle.word_blaster.specs.Word.{number, values, WordBelow}
use Rattle.word_blaster.proofs.comparisons.agreements.Given as goal

abbrev pub invariant-loop-i : goal.invariant-loop-i
invariant-loop-i l = record {
  grows : Grows l.initial.f l.f;
  below : WordBelow l.f.vars l.agree.items;
  value : (a : List Bool) → Satisfies a l.f → list_all (λ x. lit_value x a) l.agree.items ≡ (number (values (take l.i l.x) a) == number (values (take l.i l.y) a));
}
