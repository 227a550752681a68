use Rattle.std.proofs.Common.{◌≡◌, ◌<◌, Bool, List, drop}
use Rattle.std.specs.Prelude.{◌&&◌, ◌||◌, ◌==◌, nat_lt}
use Rattle.sat_formula.specs.Lit.{lit_value}
use Rattle.sat_formula.specs.Formula.{Grows, Satisfies}
use Rattle.word_blaster.specs.Word.{number, values}
use Rattle.word_blaster.proofs.counts.is_above.Given as goal

abbrev pub invariant-loop-bit : goal.invariant-loop-bit
invariant-loop-bit l = record {
  grows : Grows l.initial.f l.f;
  below : l.above.var < l.f.vars;
  value : (a : List Bool) → Satisfies a l.f →
      (nat_lt l.rest (number (values (drop l.bit-index l.bits) a)) || ((l.rest == number (values (drop l.bit-index l.bits) a)) && lit_value l.above a))
      ≡ nat_lt l.fn.n (number (values l.bits a));
}
