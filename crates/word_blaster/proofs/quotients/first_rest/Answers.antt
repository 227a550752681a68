use Rattle.std.proofs.Common.{◌≡◌, ℕ, ◌+◌, ◌-◌, ◌*◌, ◌^◌, ◌<◌, false, not, ◌&&◌, length, List, take, map, ap, arith, sym, ◌∙◌, get_or, subst}
use Rattle.std.proofs.lemmas.List.{length-take-le, length-replicate}
use Rattle.sat_formula.specs.Lit.{lit_value}
use Rattle.sat_formula.specs.declared.lit.Lit.{Lit}
use Rattle.sat_formula.proofs.Extension.{Satisfies-older}
use Rattle.word_blaster.specs.Word.{bit, number, values, WordBelow}
use Rattle.word_blaster.proofs.Bits.{number_lt}
use Rattle.word_blaster.proofs.Words.{WordBelow-take, WordBelow-replicate, values-length, turned-value, sign-values, number-values-last, number-values-lt}
use Rattle.word_blaster.proofs.Divisions.{first_rest_is, number-ones}
use Rattle.word_blaster.proofs.quotients.first_rest.Goals as goal

pub ripple-requires-clause-words : goal.ripple-requires-clause-words
ripple-requires-clause-words c =
    let last = length c.args.y.now - 1 in
    let ones = c.as_slice.ensures.value ∙ c.in_ok-ones.ensures in
    record {
      left = WordBelow-take _ _ _ c.requires.y_below;
      right = subst (λ (w : List Lit). WordBelow c.args.f.now.vars w) (sym ones) (WordBelow-replicate _ _ _ c.top-top.ensures.below);
      same = length-take-le last c.args.y.now (omega arith) ∙ sym (ap length ones ∙ length-replicate last c.top-top.result);
    }

pub returns-clause-value : goal.returns-clause-value
returns-clause-value c = λ a s2.
    let s1 = Satisfies-older _ _ a c.in_ok-rest.ensures.grows s2 in
    let s0 = Satisfies-older _ _ a c.in_ok-less_one.ensures.grows s1 in
    let d : Lit = record { var = 0; neg = false } in
    let y = c.args.y.now in
    let k = length y - 1 in
    let less = values c.in_ok-less_one.less_one.items a in
    let zero : bit (lit_value c.negated-zero.result a) ≡ 0 = ap bit (turned-value c.top-top.result c.negated-zero.result a c.negated-zero.ensures ∙ ap not (c.top-top.ensures.forced a s0)) in
    let ones : number (values c.as_slice.result.now a) + 1 ≡ 2 ^ k =
    ap (λ (w : List Lit). number (values w a) + 1) (c.as_slice.ensures.value ∙ c.in_ok-ones.ensures) ∙ number-ones k c.top-top.result a (c.top-top.ensures.forced a s0) in
    let tl : length (take k y) ≡ k = length-take-le k y (omega arith) in
    let carry = lit_value c.in_ok-less_one._carry a in
    let p : bit carry * 2 ^ length (take k y) ≡ bit carry * 2 ^ k = ap (λ (i : ℕ). bit carry * 2 ^ i) tl in
    let e : number less + bit carry * 2 ^ k ≡ number (values (take k y) a) + number (values c.as_slice.result.now a) + 0 = omega (arith, c.in_ok-less_one.ensures.value a s1, zero, p) in
    let small : number less < 2 ^ k = subst (λ (i : ℕ). number less < 2 ^ i) (values-length c.in_ok-less_one.less_one.items a ∙ c.in_ok-less_one.ensures.word.width ∙ tl) (number_lt less) in
    first_rest_is (lit_value c.args.l a) (lit_value (get_or y k d) a) carry (values y a) less (values c.in_ok-rest.rest.items a) _ _ (2 ^ k)
    (sign-values y d a c.requires.some) e ones small (number-values-last y d a k (omega arith)) (number-values-lt y a k (omega arith))
    (c.in_ok-rest.ensures.value a s2 ∙ ap (λ (w : List Lit). map (λ b. b && lit_value c.args.l a) (values w a)) c.as_slice-2.ensures.value)
