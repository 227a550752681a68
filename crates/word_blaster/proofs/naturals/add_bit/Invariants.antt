use Rattle.std.proofs.Common.{◌≡◌, ◌+◌, ◌*◌, ◌^◌, ◌<◌, Bool, length, List, take}
use Rattle.sat_formula.specs.Lit.{lit_value}
use Rattle.sat_formula.specs.Formula.{Grows, Satisfies}
use Rattle.word_blaster.specs.Word.{bit, number, values, WordBelow}
use Rattle.word_blaster.proofs.naturals.add_bit.Given as goal

abbrev pub invariant-loop-i : goal.invariant-loop-i
invariant-loop-i l = record {
  grows : Grows l.initial.f l.f;
  below : WordBelow l.f.vars l.sum.items;
  len : length l.sum.items ≡ l.i;
  carry : l.carry.var < l.f.vars;
  value : (a : List Bool) → Satisfies a l.f → number (values l.sum.items a) + bit (lit_value l.carry a) * 2 ^ l.i ≡ number (values (take l.i l.x) a) + bit (lit_value l.fn.one a);
}
