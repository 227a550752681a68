use Rattle.std.proofs.Common.{◌≡◌, Bool, not, List, ap, arith, ◌∙◌, pos, ℤ}
use Rattle.std.proofs.lemmas.List.{length_push}
use Rattle.sat_formula.specs.Lit.{lit_value}
use Rattle.sat_formula.specs.declared.lit.Lit.{Lit}
use Rattle.sat_formula.specs.Formula.{Satisfies}
use Rattle.sat_formula.proofs.Extension.{Satisfies-older}
use Rattle.word_blaster.specs.Word.{number, values, signed, fits_width}
use Rattle.word_blaster.proofs.Words.{WordBelow-push, values-push, turned-value}
use Rattle.word_blaster.proofs.Unsigned.{number-zero, signed-zero}
use Rattle.word_blaster.proofs.naturals.natural.Goals as goal

pub loop-i-preserved : goal.loop-i-preserved
loop-i-preserved c =
    let v = ap (λ (l : Lit). l.var) c.negated-none.ensures in
    let b = c.top.ensures.below in
    let pushed = c.in_ok-push.ensures.items in
    record {
      below = rw pushed (WordBelow-push _ _ c.negated-none.result c.loop-i.invariant.below (omega arith));
      long = rw pushed (let l = length_push c.loop-i.bits.items c.negated-none.result in let i = c.loop-i.invariant.long in omega arith);
      value = λ a s.
          ap (λ (w : List Lit). number (values w a)) pushed ∙ ap number (values-push c.loop-i.bits.items c.negated-none.result a)
          ∙ number-zero (values c.loop-i.bits.items a) (lit_value c.negated-none.result a) (turned-value c.top.result c.negated-none.result a c.negated-none.ensures ∙ ap not (c.top.ensures.forced a s))
          ∙ c.loop-i.invariant.value a s;
    }

pub returns-clause-exact : goal.returns-clause-exact
returns-clause-exact c =
    let e = c.in_ok-word.ensures.exact in
    let is : (a : List Bool) → Satisfies a c.args.f.now → signed (values c.as_slice.result.now a) ≡ pos (number (values c.args.x.now a)) = λ a s.
    ap (λ (w : List Lit). signed (values w a)) (c.as_slice.ensures.value ∙ c.in_ok-push-2.ensures.items) ∙ ap signed (values-push c.loop-i.bits.items c.negated-none.result a)
    ∙ signed-zero (values c.loop-i.bits.items a) (lit_value c.negated-none.result a) (turned-value c.top.result c.negated-none.result a c.negated-none.ensures ∙ ap not (c.top.ensures.forced a s))
    ∙ ap pos (c.loop-i.invariant.value a s) in
    record {
      below = e.below;
      width = e.width;
      outside = record {
        below = e.outside.below;
        value = λ a s. e.outside.value a s ∙ ap (λ (z : ℤ). not (fits_width c.args.width z)) (is a (Satisfies-older _ _ a c.in_ok-word.ensures.grows s));
      };
      value = λ a s o. e.value a s o ∙ is a (Satisfies-older _ _ a c.in_ok-word.ensures.grows s);
    }
