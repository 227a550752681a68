use Rattle.std.proofs.Common.{◌≡◌, ◌+◌, ◌*◌, false, not, ◌&&◌, length, List, drop, map, ap, arith, sym, ◌∙◌, get_or, subst}
use Rattle.std.proofs.lemmas.List.{take_rest, length-drop}
use Rattle.sat_formula.specs.Lit.{lit_value}
use Rattle.sat_formula.specs.declared.lit.Lit.{Lit}
use Rattle.sat_formula.proofs.Extension.{Satisfies-older}
use Rattle.word_blaster.specs.Word.{bit, number, taken, values, WordBelow}
use Rattle.word_blaster.proofs.Words.{WordBelow-get, WordBelow-drop, values-length, turned-value}
use Rattle.word_blaster.proofs.Multiples.{number-first, taken-first, number-mask, taken-mask}
use Rattle.word_blaster.proofs.products.add_part.Goals as goal

pub returns-clause-low_below : goal.returns-clause-low_below
returns-clause-low_below c =
    WordBelow-get _ _ c.as_slice-bits.result.now 0 _ (subst (λ (w : List Lit). WordBelow c.wide_sum.new.f.vars w) (sym c.as_slice-bits.ensures.value) c.in_ok-sum.ensures.word.below)
    (omega (arith, ap length c.as_slice-bits.ensures.value, c.in_ok-sum.ensures.word.width)) (omega arith)

pub returns-clause-word : goal.returns-clause-word
returns-clause-word c =
    let rest : c.in_ok-rest.rest.items ≡ drop 1 c.in_ok-sum.sum.items =
    c.in_ok-rest.ensures.items ∙ take_rest c.as_slice-bits.result.now 1 ∙ ap (λ (w : List Lit). drop 1 w) c.as_slice-bits.ensures.value in
    record {
      below = subst (λ (w : List Lit). WordBelow c.wide_sum.new.f.vars w) (sym rest) (WordBelow-drop _ 1 _ c.in_ok-sum.ensures.word.below);
      width = omega (arith, ap length rest, length-drop 1 c.in_ok-sum.sum.items, c.in_ok-sum.ensures.word.width, c.requires.words.same);
    }

pub returns-clause-value : goal.returns-clause-value
returns-clause-value c = λ a s2.
    let s1 = Satisfies-older _ _ a c.in_ok-sum.ensures.grows s2 in
    let s0 = Satisfies-older _ _ a c.in_ok-part.ensures.grows s1 in
    let d : Lit = record { var = 0; neg = false } in
    let x = c.args.x.now in
    let m = lit_value c.args.l a in
    let z : bit (lit_value c.negated-zero.result a) ≡ 0 = ap bit (turned-value c.top.result c.negated-zero.result a c.negated-zero.ensures ∙ ap not (c.top.ensures.forced a s0)) in
    let part : values c.as_slice.result.now a ≡ map (λ b. b && m) (values x a) = ap (λ (w : List Lit). values w a) c.as_slice.ensures.value ∙ c.in_ok-part.ensures.value a s1 in
    let pn : number (values c.as_slice.result.now a) ≡ bit m * number (values x a) = ap number part ∙ number-mask m (values x a) in
    let pt : taken (values c.as_slice.result.now a) ≡ bit m * taken (values x a) = ap taken part ∙ taken-mask m (values x a) (omega (arith, values-length x a)) in
    let sum = c.in_ok-sum.sum.items in
    let bits = c.as_slice-bits.result.now in
    let same : bits ≡ sum = c.as_slice-bits.ensures.value in
    let len : length bits ≡ length c.args.high.now + 1 = ap length same ∙ c.in_ok-sum.ensures.word.width in
    let v = c.in_ok-sum.ensures.value a s2 in
    let rest : c.in_ok-rest.rest.items ≡ drop 1 bits = c.in_ok-rest.ensures.items ∙ take_rest bits 1 in
    let n : number (values sum a) ≡ bit (lit_value (get_or bits 0 d) a) + 2 * number (values c.in_ok-rest.rest.items a) =
    ap (λ (w : List Lit). number (values w a)) (sym same) ∙ number-first bits d a (omega (arith, len))
    ∙ ap (λ (w : List Lit). bit (lit_value (get_or bits 0 d) a) + 2 * number (values w a)) (sym rest) in
    let t : taken (values sum a) ≡ 2 * taken (values c.in_ok-rest.rest.items a) =
    ap (λ (w : List Lit). taken (values w a)) (sym same) ∙ taken-first bits d a (omega (arith, len))
    ∙ ap (λ (w : List Lit). 2 * taken (values w a)) (sym rest) in
    omega (arith, v, z, pn, pt, n, t)
