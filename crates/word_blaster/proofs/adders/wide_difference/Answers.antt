use Rattle.std.proofs.Common.{◌≡◌, ◌<◌, not, length, List, map, ap, arith, sym, ◌∙◌, subst}
use Rattle.std.proofs.lemmas.List.{length-map}
use Rattle.sat_formula.specs.Lit.{lit_value}
use Rattle.sat_formula.specs.declared.lit.Lit.{Lit}
use Rattle.sat_formula.proofs.Extension.{Satisfies-older}
use Rattle.word_blaster.specs.Word.{bit, number, taken, values, WordBelow}
use Rattle.word_blaster.proofs.Words.{WordBelow-not, values-not, values-length}
use Rattle.word_blaster.proofs.Signs.{number-not, taken-not}
use Rattle.word_blaster.proofs.adders.wide_difference.Goals as goal

pub wide_sum-requires-clause-words : goal.wide_sum-requires-clause-words
wide_sum-requires-clause-words c =
    let turned = c.as_slice.ensures.value ∙ c.in_ok-turned.ensures in
    record {
      left = c.requires.words.left;
      right = subst (λ (w : List Lit). WordBelow c.args.f.now.vars w) (sym turned) (WordBelow-not _ c.args.y.now c.requires.words.right);
      same = omega (arith, c.requires.words.same, ap length turned, length-map {B = Lit} c.args.y.now (λ (l : Lit). record { var = l.var; neg = not l.neg }));
    }

pub returns-clause-value : goal.returns-clause-value
returns-clause-value c = λ a s.
    let s0 = Satisfies-older _ _ a c.in_ok-difference.ensures.grows s in
    let y = values c.args.y.now a in
    let t : values c.as_slice.result.now a ≡ map not y = ap (λ (w : List Lit). values w a) (c.as_slice.ensures.value ∙ c.in_ok-turned.ensures) ∙ values-not c.args.y.now a in
    let one : bit (lit_value c.top-one.result a) ≡ 1 = ap bit (c.top-one.ensures.forced a s0) in
    let n : number (values c.as_slice.result.now a) ≡ number (map not y) = ap number t in
    let k : taken (values c.as_slice.result.now a) ≡ taken (map not y) = ap taken t in
    let some : 0 < length y = omega (arith, values-length c.args.y.now a) in
    omega (arith, c.in_ok-difference.ensures.value a s, one, n, k, number-not y, taken-not y some)
