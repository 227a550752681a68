use Rattle.std.proofs.Common.{◌≡◌, ◌+◌, ◌^◌, ◌<◌, ℕ, List, length, map, not, ap, arith, subst, sym, ◌∙◌}
use Rattle.std.proofs.lemmas.List.{length-map}
use Rattle.sat_formula.specs.declared.lit.Lit.{Lit}
use Rattle.sat_formula.specs.Lit.{lit_value}
use Rattle.sat_formula.proofs.Extension.{Satisfies-older}
use Rattle.word_blaster.specs.Word.{WordBelow, bit, number, values}
use Rattle.word_blaster.proofs.Bits.{number_lt}
use Rattle.word_blaster.proofs.Words.{WordBelow-not, values-length, values-not}
use Rattle.word_blaster.proofs.Signs.{number-not}
use Rattle.word_blaster.proofs.CountLemmas.{difference_is}
use Rattle.word_blaster.proofs.counts.subtract_counts.Goals as goal

pub ripple-requires-clause-words : goal.ripple-requires-clause-words
ripple-requires-clause-words c =
    let turned = c.as_slice.ensures.value ∙ c.in_ok-turned.ensures in
    record {
      left = c.requires.words.left;
      right = subst (λ (w : List Lit). WordBelow c.args.f.now.vars w) (sym turned) (WordBelow-not _ c.args.y.now c.requires.words.right);
      same = omega (arith, c.requires.words.same, ap length turned, length-map {B = Lit} c.args.y.now (λ (l : Lit). record { var = l.var; neg = not l.neg }));
    }

pub returns-clause-value : goal.returns-clause-value
returns-clause-value c = λ a s le.
    let old = Satisfies-older _ _ a c.in_ok-difference.ensures.grows s in
    let d = c.in_ok-difference.difference.items in
    let y = values c.args.y.now a in
    let one : bit (lit_value c.top-one.result a) ≡ 1 = ap bit (c.top-one.ensures.forced a old) in
    let t : number (values c.as_slice.result.now a) ≡ number (map not y) = ap number (ap (λ (w : List Lit). values w a) (c.as_slice.ensures.value ∙ c.in_ok-turned.ensures) ∙ values-not c.args.y.now a) in
    let n : number (map not y) + number y + 1 ≡ 2 ^ length c.args.x.now = number-not y ∙ ap (λ (k : ℕ). 2 ^ k) (values-length c.args.y.now a ∙ sym c.requires.words.same) in
    let lt : number (values d a) < 2 ^ length c.args.x.now = subst (λ (k : ℕ). number (values d a) < 2 ^ k) (values-length d a ∙ c.in_ok-difference.ensures.word.width) (number_lt (values d a)) in
    difference_is _ _ _ _ (number (map not y)) (2 ^ length c.args.x.now) (c.in_ok-difference.ensures.value a s ∙ omega (arith, one, t)) n lt le
