use Rattle.std.proofs.Common.{◌≡◌, ℕ, ◌+◌, ◌-◌, ◌*◌, ◌^◌, ◌<◌, false, not, ◌&&◌, length, List, [], ◌++◌, map, take, replicate, ap, arith, sym, ◌∙◌, get_or, subst}
use Rattle.std.proofs.lemmas.List.{length_push, length-replicate, length-append}
use Rattle.sat_formula.specs.Lit.{lit_value}
use Rattle.sat_formula.specs.declared.lit.Lit.{Lit}
use Rattle.sat_formula.proofs.Extension.{Satisfies-older, Grows-refl, Grows-trans}
use Rattle.word_blaster.specs.Word.{bit, number, taken, values, WordBelow}
use Rattle.word_blaster.proofs.Bits.{double_pow, number-append}
use Rattle.word_blaster.proofs.Words.{WordBelow-get, WordBelow-later, WordBelow-push, WordBelow-append, WordBelow-nil, WordBelow-replicate, values-length, values-append, turned-value, number-values-more, number-values-push, number-values-nil, number-nil, number-values-last, taken-values-last}
use Rattle.word_blaster.proofs.Exact.{number-zeros, taken-zeros}
use Rattle.word_blaster.proofs.Multiples.{number-mask, taken-mask, taken-append, product_step, product_end, signed_product}
use Rattle.word_blaster.proofs.products.wide_product.Goals as goal

pub loop-i-init : goal.loop-i-init
loop-i-init c =
    let zeros : c.in_ok-high.high.items ≡ replicate (length c.args.x.now) c.negated-zero.result = c.in_ok-high.ensures in
    record {
      grows = Grows-refl _;
      low_below = subst (λ (w : List Lit). WordBelow c.args.f.now.vars w) (sym c.new-low.ensures.items) (WordBelow-nil _);
      high_below = subst (λ (w : List Lit). WordBelow c.args.f.now.vars w) (sym zeros)
          (WordBelow-replicate _ _ _ (subst (λ (l : Lit). l.var < c.args.f.now.vars) (sym c.negated-zero.ensures) c.top.ensures.below));
      low_len = ap length c.new-low.ensures.items;
      high_len = ap length zeros ∙ length-replicate (length c.args.x.now) c.negated-zero.result;
      value = λ a s.
          let b : lit_value c.negated-zero.result a ≡ false = turned-value c.top.result c.negated-zero.result a c.negated-zero.ensures ∙ ap not (c.top.ensures.forced a s) in
          let n : number (values c.in_ok-high.high.items a) ≡ 0 = ap (λ (w : List Lit). number (values w a)) zeros ∙ number-zeros (length c.args.x.now) _ a b in
          let t : taken (values c.in_ok-high.high.items a) ≡ 0 = ap (λ (w : List Lit). taken (values w a)) zeros ∙ taken-zeros (length c.args.x.now) _ a c.requires.x_some b in
          let l : number (values c.new-low.result.items a) ≡ 0 = number-values-nil _ a c.new-low.ensures.items in
          let p : taken (values c.args.x.now a) * number [] ≡ taken (values c.args.x.now a) * 0 = ap (λ (k : ℕ). taken (values c.args.x.now a) * k) number-nil in
          let q : number (values c.args.x.now a) * number [] ≡ number (values c.args.x.now a) * 0 = ap (λ (k : ℕ). number (values c.args.x.now a) * k) number-nil in
          omega (arith, n, t, l, p, q);
    }

pub add_part-requires-clause-l_below : goal.add_part-requires-clause-l_below
add_part-requires-clause-l_below c = WordBelow-get c.args.f.now.vars _ c.args.y.now _ _ c.requires.y_below (omega arith) c.loop-i.invariant.grows.vars

pub loop-i-preserved : goal.loop-i-preserved
loop-i-preserved c =
    let b = c.in_ok-bit.bit in
    let i = c.loop-i.i in
    let x = c.args.x.now in
    let y = c.args.y.now in
    let d : Lit = record { var = 0; neg = false } in
    record {
      grows = Grows-trans _ _ _ c.loop-i.invariant.grows c.in_ok-bit.ensures.grows;
      low_below = subst (λ (w : List Lit). WordBelow c.add_part.new.f.vars w) (sym c.in_ok-push.ensures.items)
          (WordBelow-push _ _ b (WordBelow-later _ _ _ c.loop-i.invariant.low_below c.in_ok-bit.ensures.grows.vars) c.in_ok-bit.ensures.low_below);
      high_below = c.in_ok-bit.ensures.word.below;
      low_len = ap length c.in_ok-push.ensures.items ∙ length_push c.loop-i.low.items b ∙ ap (λ (k : ℕ). k + 1) c.loop-i.invariant.low_len;
      high_len = c.in_ok-bit.ensures.word.width;
      value = λ a s1.
          let s0 = Satisfies-older _ _ a c.in_ok-bit.ensures.grows s1 in
          let q = lit_value (get_or y i d) a in
          let ys : number (values (take (i + 1) y) a) ≡ number (values (take i y) a) + bit q * 2 ^ i = number-values-more y d a i (omega arith) in
          let low : number (values c.push.new.self.items a) ≡ number (values c.loop-i.low.items a) + bit (lit_value b a) * 2 ^ i =
          ap (λ (w : List Lit). number (values w a)) c.in_ok-push.ensures.items ∙ number-values-push c.loop-i.low.items b a i c.loop-i.invariant.low_len in
          let v = subst (λ (w : List Lit). bit (lit_value b a) + 2 * number (values c.in_ok-bit.rest.items a) + taken (values w a) + bit q * taken (values x a) ≡ number (values w a) + bit q * number (values x a) + 2 * taken (values c.in_ok-bit.rest.items a))
          c.as_slice.ensures.value (c.in_ok-bit.ensures.value a s1) in
          let e = product_step (2 ^ i) (2 ^ (i + 1)) _ _ _ _ _ _ _ _ _ _ (c.loop-i.invariant.value a s0) v (double_pow i) in
          let qy : taken (values x a) * number (values (take (i + 1) y) a) ≡ taken (values x a) * (number (values (take i y) a) + bit q * 2 ^ i) = ap (λ (k : ℕ). taken (values x a) * k) ys in
          let ny : number (values x a) * number (values (take (i + 1) y) a) ≡ number (values x a) * (number (values (take i y) a) + bit q * 2 ^ i) = ap (λ (k : ℕ). number (values x a) * k) ys in
          omega (arith, e, low, qy, ny);
    }

pub masked-requires-clause-l_below : goal.masked-requires-clause-l_below
masked-requires-clause-l_below c = WordBelow-get c.args.f.now.vars _ c.args.y.now _ _ c.requires.y_below (omega arith) c.loop-i.invariant.grows.vars

pub returns-clause-word : goal.returns-clause-word
returns-clause-word c =
    let low = c.loop-i.low.items in
    let difference = c.in_ok-difference.difference.items in
    let all : c.extend_from_slice.new.self.items ≡ low ++ difference = c.in_ok-extend_from_slice.ensures.items ∙ ap (λ (w : List Lit). low ++ w) c.as_slice-4.ensures.value in
    record {
      below = subst (λ (w : List Lit). WordBelow c.wide_difference.new.f.vars w) (sym all)
          (WordBelow-append _ _ _ (WordBelow-later _ _ _ c.loop-i.invariant.low_below (omega (arith, c.in_ok-part.ensures.grows.vars, c.in_ok-difference.ensures.grows.vars))) c.in_ok-difference.ensures.word.below);
      width = omega (arith, ap length all, length-append low difference, c.in_ok-difference.ensures.word.width, ap length c.as_slice-2.ensures.value, c.loop-i.invariant.high_len, c.loop-i.invariant.low_len);
    }

pub returns-clause-value : goal.returns-clause-value
returns-clause-value c = λ a s2.
    let s1 = Satisfies-older _ _ a c.in_ok-difference.ensures.grows s2 in
    let s0 = Satisfies-older _ _ a c.in_ok-part.ensures.grows s1 in
    let d : Lit = record { var = 0; neg = false } in
    let x = values c.args.x.now a in
    let y = c.args.y.now in
    let i = length y - 1 in
    let t = lit_value (get_or y i d) a in
    let high = values c.loop-i.high.items a in
    let low = values c.loop-i.low.items a in
    let out = values c.in_ok-difference.difference.items a in
    let h = 2 ^ i in
    let at : c.loop-i.i ≡ i = omega arith in
    let inv : h * number high + number low + taken x * number (values (take i y) a) ≡ number x * number (values (take i y) a) + h * taken high =
    subst (λ (k : ℕ). 2 ^ k * number high + number low + taken x * number (values (take k y) a) ≡ number x * number (values (take k y) a) + 2 ^ k * taken high) at (c.loop-i.invariant.value a s0) in
    let part : values c.as_slice-3.result.now a ≡ map (λ b. b && t) x = ap (λ (w : List Lit). values w a) c.as_slice-3.ensures.value ∙ c.in_ok-part.ensures.value a s1 in
    let pn : number (values c.as_slice-3.result.now a) ≡ bit t * number x = ap number part ∙ number-mask t x in
    let pt : taken (values c.as_slice-3.result.now a) ≡ bit t * taken x = ap taken part ∙ taken-mask t x (omega (arith, values-length c.args.x.now a)) in
    let hn : values c.as_slice-2.result.now a ≡ high = ap (λ (w : List Lit). values w a) c.as_slice-2.ensures.value in
    let hnn : number (values c.as_slice-2.result.now a) ≡ number high = ap number hn in
    let hnt : taken (values c.as_slice-2.result.now a) ≡ taken high = ap taken hn in
    let v : number out + taken high + bit t * number x ≡ number high + bit t * taken x + taken out = omega (arith, c.in_ok-difference.ensures.value a s2, pn, pt, hnn, hnt) in
    let e = product_end h (number high) (taken high) (number out) (taken out) (number x) (taken x) (number (values (take i y) a)) (bit t) (number low) inv v in
    let ll : length low ≡ i = values-length c.loop-i.low.items a ∙ c.loop-i.invariant.low_len ∙ at in
    let all : values c.extend_from_slice.new.self.items a ≡ low ++ out =
    ap (λ (w : List Lit). values w a) (c.in_ok-extend_from_slice.ensures.items ∙ ap (λ (w : List Lit). c.loop-i.low.items ++ w) c.as_slice-4.ensures.value)
    ∙ values-append c.loop-i.low.items c.in_ok-difference.difference.items a in
    let ol : 0 < length out = omega (arith, values-length c.in_ok-difference.difference.items a, c.in_ok-difference.ensures.word.width) in
    let n : number (values c.extend_from_slice.new.self.items a) ≡ number low + h * number out =
    ap number all ∙ number-append low out ∙ ap (λ (k : ℕ). number low + 2 ^ k * number out) ll in
    let k : taken (values c.extend_from_slice.new.self.items a) ≡ h * taken out =
    ap taken all ∙ taken-append low out ol ∙ ap (λ (k : ℕ). 2 ^ k * taken out) ll in
    let yn : number (values y a) ≡ number (values (take i y) a) + bit t * h = number-values-last y d a i (omega arith) in
    let yt : taken (values y a) ≡ bit t * (2 * h) = taken-values-last y d a i (omega arith) in
    let a1 : taken x * number (values y a) ≡ taken x * (number (values (take i y) a) + bit t * h) = ap (λ (z : ℕ). taken x * z) yn in
    let a2 : number x * number (values y a) ≡ number x * (number (values (take i y) a) + bit t * h) = ap (λ (z : ℕ). number x * z) yn in
    let a3 : taken x * taken (values y a) ≡ taken x * (bit t * (2 * h)) = ap (λ (z : ℕ). taken x * z) yt in
    let a4 : number x * taken (values y a) ≡ number x * (bit t * (2 * h)) = ap (λ (z : ℕ). number x * z) yt in
    signed_product x (values y a) (values c.extend_from_slice.new.self.items a) (omega (arith, e, n, k, a1, a2, a3, a4))
