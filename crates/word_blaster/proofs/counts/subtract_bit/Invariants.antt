use Rattle.std.proofs.Common.{◌≡◌, ◌+◌, ◌*◌, ◌^◌, ◌<◌, Bool, length, List, take}
use Rattle.sat_formula.specs.Lit.{lit_value}
use Rattle.sat_formula.specs.Formula.{Grows, Satisfies}
use Rattle.word_blaster.specs.Word.{bit, number, values, WordBelow}
use Rattle.word_blaster.proofs.counts.subtract_bit.Given as goal

abbrev pub invariant-loop-i : goal.invariant-loop-i
invariant-loop-i l = record {
  grows : Grows l.initial.f l.f;
  below : WordBelow l.f.vars l.difference.items;
  len : length l.difference.items ≡ l.i;
  borrow : l.borrow.var < l.f.vars;
  value : (a : List Bool) → Satisfies a l.f → number (values l.difference.items a) + bit (lit_value l.fn.one a) ≡ number (values (take l.i l.x) a) + bit (lit_value l.borrow a) * 2 ^ l.i;
}
