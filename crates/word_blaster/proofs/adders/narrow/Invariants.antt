use Rattle.std.proofs.Common.{◌≡◌, Bool, false, not, List, take}
use Rattle.sat_formula.specs.Lit.{lit_value}
use Rattle.sat_formula.specs.Formula.{Grows, HasValue, Satisfies}
use Rattle.word_blaster.specs.Word.{signed, values, fits_width}
use Rattle.word_blaster.proofs.adders.narrow.Given as goal

abbrev pub invariant-loop-i : goal.invariant-loop-i
invariant-loop-i l = record {
  grows : Grows l.initial.f l.f;
  outside : HasValue l.f l.outside (λ a. not (fits_width l.fn.width (signed (values (take l.i l.x) a))));
  inside : (a : List Bool) → Satisfies a l.f → lit_value l.outside a ≡ false → signed (values (take l.i l.x) a) ≡ signed (values (take l.fn.width l.x) a);
}
