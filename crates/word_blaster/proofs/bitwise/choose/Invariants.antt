use Rattle.std.proofs.Common.{◌≡◌, Bool, List, length, take}
use Rattle.std.specs.Prelude.{if◌then◌else◌}
use Rattle.sat_formula.specs.Lit.{lit_value}
use Rattle.sat_formula.specs.Formula.{Grows, Satisfies}
use Rattle.word_blaster.specs.Word.{values, WordBelow}
use Rattle.word_blaster.proofs.bitwise.choose.Given as goal

abbrev pub invariant-loop-i : goal.invariant-loop-i
invariant-loop-i l = record {
  grows : Grows l.initial.f l.f;
  below : WordBelow l.f.vars l.bits.items;
  len : length l.bits.items ≡ l.i;
  value : (a : List Bool) → Satisfies a l.f → values l.bits.items a ≡ (if lit_value l.fn.c a then values (take l.i l.x) a else values (take l.i l.y) a);
}
