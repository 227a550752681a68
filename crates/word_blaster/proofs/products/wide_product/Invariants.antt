use Rattle.std.proofs.Common.{◌≡◌, ◌+◌, ◌*◌, ◌^◌, Bool, List, length, take}
use Rattle.sat_formula.specs.Formula.{Grows, Satisfies}
use Rattle.word_blaster.specs.Word.{number, taken, values, WordBelow}
use Rattle.word_blaster.proofs.products.wide_product.Given as goal

abbrev pub invariant-loop-i : goal.invariant-loop-i
invariant-loop-i l = record {
  grows : Grows l.initial.f l.f;
  low_below : WordBelow l.f.vars l.low.items;
  high_below : WordBelow l.f.vars l.high.items;
  low_len : length l.low.items ≡ l.i;
  high_len : length l.high.items ≡ length l.x;
  value : (a : List Bool) → Satisfies a l.f →
      2 ^ l.i * number (values l.high.items a) + number (values l.low.items a) + taken (values l.x a) * number (values (take l.i l.y) a)
      ≡ number (values l.x a) * number (values (take l.i l.y) a) + 2 ^ l.i * taken (values l.high.items a);
}
