use Rattle.std.proofs.Common.{◌≡◌, Bool, List, drop}
use Rattle.std.specs.Prelude.{◌&&◌, ◌==◌}
use Rattle.std.specs.List.{list_all}
use Rattle.sat_formula.specs.Lit.{lit_value}
use Rattle.word_blaster.specs.Word.{WordBelow, number, values}
use Rattle.word_blaster.proofs.counts.equals_number.Given as goal

abbrev pub invariant-loop-bit : goal.invariant-loop-bit
invariant-loop-bit l = record {
  below : WordBelow l.f.vars l.tests.items;
  value : (a : List Bool) →
      (list_all (λ x. lit_value x a) l.tests.items && (number (values (drop l.bit-index l.bits) a) == l.rest)) ≡ (number (values l.bits a) == l.n);
}
