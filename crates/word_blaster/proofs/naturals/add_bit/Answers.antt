use Rattle.std.proofs.Common.{◌≡◌, ℕ, ◌+◌, ◌*◌, ◌^◌, ◌≤◌, false, length, List, [], ◌∷◌, ◌++◌, take, ap, arith, sym, ◌∙◌, get_or, subst}
use Rattle.std.proofs.lemmas.List.{length_push, take_all}
use Rattle.sat_formula.specs.Lit.{lit_value}
use Rattle.sat_formula.specs.declared.lit.Lit.{Lit}
use Rattle.sat_formula.proofs.Extension.{Satisfies-older, Grows-trans}
use Rattle.word_blaster.specs.Word.{bit, number, values, WordBelow}
use Rattle.word_blaster.proofs.Words.{number-values-push, number-values-more, WordBelow-push, WordBelow-later, WordBelow-get}
use Rattle.word_blaster.proofs.Bits.{double_pow}
use Rattle.word_blaster.proofs.Unsigned.{half_bits, half_place, no_carry}
use Rattle.word_blaster.proofs.naturals.add_bit.Goals as goal

pub xor-requires-clause-x_below : goal.xor-requires-clause-x_below
xor-requires-clause-x_below c = WordBelow-get c.args.f.now.vars _ c.args.x.now _ _ c.requires.x_below (omega arith) c.loop-i.invariant.grows.vars

pub and-requires-clause-x_below : goal.and-requires-clause-x_below
and-requires-clause-x_below c =
    let le : c.args.f.now.vars ≤ c.xor.new.self.vars = (let p = c.loop-i.invariant.grows.vars in let q = c.in_ok-place.ensures.grows.vars in omega arith) in
    WordBelow-get c.args.f.now.vars _ c.args.x.now _ _ c.requires.x_below (omega arith) le

pub loop-i-preserved : goal.loop-i-preserved
loop-i-preserved c =
    let d : Lit = record { var = 0; neg = false } in
    let s = c.in_ok-place.place in
    let n = c.in_ok-next.next in
    let i = c.loop-i.i in
    let x = get_or c.args.x.now i d in
    let two = Grows-trans _ _ _ c.in_ok-place.ensures.grows c.in_ok-next.ensures.grows in
    let pushed : c.push.new.self.items ≡ c.loop-i.sum.items ++ s ∷ [] = c.in_ok-push.ensures.items in
    record {
      grows = Grows-trans _ _ _ c.loop-i.invariant.grows two;
      below = subst (λ (w : List Lit). WordBelow c.and.new.self.vars w) (sym pushed)
          (WordBelow-push _ _ s (WordBelow-later _ _ _ c.loop-i.invariant.below two.vars) (let p = c.in_ok-place.ensures.value.below in let q = c.in_ok-next.ensures.grows.vars in omega arith));
      len = ap length pushed ∙ length_push c.loop-i.sum.items s ∙ ap (λ (k : ℕ). k + 1) c.loop-i.invariant.len;
      carry = c.in_ok-next.ensures.value.below;
      value = λ a s2.
          let s1 = Satisfies-older _ _ a c.in_ok-next.ensures.grows s2 in
          let s0 = Satisfies-older _ _ a c.in_ok-place.ensures.grows s1 in
          let e = c.loop-i.invariant.value a s0 in
          let g : bit (lit_value s a) + 2 * bit (lit_value n a) ≡ bit (lit_value x a) + bit (lit_value c.loop-i.carry a) =
          rw (c.in_ok-place.ensures.value.value a s1, c.in_ok-next.ensures.value.value a s2) (half_bits (lit_value x a) (lit_value c.loop-i.carry a)) in
          let t = half_place _ _ (2 ^ i) (2 ^ (i + 1)) _ _ _ _ _ e g (double_pow i) in
          let p : number (values c.push.new.self.items a) ≡ number (values c.loop-i.sum.items a) + bit (lit_value s a) * 2 ^ i =
          ap (λ (w : List Lit). number (values w a)) pushed ∙ number-values-push c.loop-i.sum.items s a i c.loop-i.invariant.len in
          let m = number-values-more c.args.x.now d a i (omega arith) in
          omega (arith, t, p, m);
    }

pub returns-then-has_room-clause-value : goal.returns-then-has_room-clause-value
returns-then-has_room-clause-value c = λ a s.
    let x = c.args.x.now in
    let i = c.loop-i.i in
    let all : take i x ≡ x = take_all i x (omega arith) in
    let e = c.loop-i.invariant.value a s ∙ ap (λ (w : List Lit). number (values w a) + bit (lit_value c.args.one a)) all in
    let most = c.requires.most a (Satisfies-older _ _ a c.loop-i.invariant.grows s) in
    let fits = c.has_room.ensures.some c.if-has_room.true in
    let same : i ≡ length x = omega arith in
    no_carry (lit_value c.loop-i.carry a) _ _ (2 ^ i) e (rw same (omega (arith, most, fits)))

pub returns-clause-value : goal.returns-clause-value
returns-clause-value c = λ a s.
    let x = c.args.x.now in
    let i = c.loop-i.i in
    let all : take i x ≡ x = take_all i x (omega arith) in
    ap (λ (w : List Lit). number (values w a)) c.in_ok-push-2.ensures.items ∙ number-values-push c.loop-i.sum.items c.loop-i.carry a i c.loop-i.invariant.len
    ∙ c.loop-i.invariant.value a s ∙ ap (λ (w : List Lit). number (values w a) + bit (lit_value c.args.one a)) all
