use Rattle.std.proofs.Common.{◌≡◌, ◌&&◌, ◌+◌, ◌*◌, ◌^◌, ◌<◌, ◌≤◌, ℕ, Bool, false, List, [], ◌∷◌, ◌++◌, length, not, take, get_or, ap, arith, subst, sym, ◌∙◌}
use Rattle.std.proofs.lemmas.List.{length_push, take_all}
use Rattle.sat_formula.specs.declared.lit.Lit.{Lit}
use Rattle.sat_formula.specs.Lit.{lit_value}
use Rattle.sat_formula.proofs.Extension.{Satisfies-older, Grows-trans}
use Rattle.word_blaster.specs.Word.{WordBelow, bit, number, values}
use Rattle.word_blaster.proofs.Bits.{double_pow, number_lt}
use Rattle.word_blaster.proofs.Words.{WordBelow-get, WordBelow-later, WordBelow-push, number-values-more, number-values-push, turned-value, values-length}
use Rattle.word_blaster.proofs.CountLemmas.{borrow_place, no_borrow}
use Rattle.word_blaster.proofs.counts.subtract_bit.Goals as goal

pub xor-requires-clause-x_below : goal.xor-requires-clause-x_below
xor-requires-clause-x_below c = WordBelow-get c.args.f.now.vars _ c.args.x.now _ _ c.requires.x_below (omega arith) c.loop-i.invariant.grows.vars

pub and-requires-clause-x_below : goal.and-requires-clause-x_below
and-requires-clause-x_below c =
    let le : c.args.f.now.vars ≤ c.xor.new.self.vars = (let p = c.loop-i.invariant.grows.vars in let q = c.in_ok-place.ensures.grows.vars in omega arith) in
    subst (λ (l : Lit). l.var < c.xor.new.self.vars) (sym c.negated.ensures) (WordBelow-get c.args.f.now.vars _ c.args.x.now _ _ c.requires.x_below (omega arith) le)

pub loop-i-preserved : goal.loop-i-preserved
loop-i-preserved c =
    let d : Lit = record { var = 0; neg = false } in
    let s = c.in_ok-place.place in
    let n = c.in_ok-next.next in
    let i = c.loop-i.i in
    let x = get_or c.args.x.now i d in
    let two = Grows-trans _ _ _ c.in_ok-place.ensures.grows c.in_ok-next.ensures.grows in
    let pushed : c.push.new.self.items ≡ c.loop-i.difference.items ++ s ∷ [] = c.in_ok-push.ensures.items in
    record {
      grows = Grows-trans _ _ _ c.loop-i.invariant.grows two;
      below = subst (λ (w : List Lit). WordBelow c.and.new.self.vars w) (sym pushed)
          (WordBelow-push _ _ s (WordBelow-later _ _ _ c.loop-i.invariant.below two.vars) (let p = c.in_ok-place.ensures.value.below in let q = c.in_ok-next.ensures.grows.vars in omega arith));
      len = ap length pushed ∙ length_push c.loop-i.difference.items s ∙ ap (λ (k : ℕ). k + 1) c.loop-i.invariant.len;
      borrow = c.in_ok-next.ensures.value.below;
      value = λ a s2.
          let s1 = Satisfies-older _ _ a c.in_ok-next.ensures.grows s2 in
          let s0 = Satisfies-older _ _ a c.in_ok-place.ensures.grows s1 in
          let e = c.loop-i.invariant.value a s0 in
          let b = lit_value c.loop-i.borrow a in
          let turned : lit_value n a ≡ (not (lit_value x a) && b) = c.in_ok-next.ensures.value.value a s2 ∙ ap (λ (t : Bool). t && b) (turned-value x c.negated.result a c.negated.ensures) in
          let g : number (values c.loop-i.difference.items a) + bit (lit_value s a) * 2 ^ i + bit (lit_value c.args.one a)
          ≡ number (values (take i c.args.x.now) a) + bit (lit_value x a) * 2 ^ i + bit (lit_value n a) * 2 ^ (i + 1) =
          rw (c.in_ok-place.ensures.value.value a s1, turned) (borrow_place _ _ (2 ^ i) (2 ^ (i + 1)) _ (lit_value x a) b e (double_pow i)) in
          let p : number (values c.push.new.self.items a) ≡ number (values c.loop-i.difference.items a) + bit (lit_value s a) * 2 ^ i =
          ap (λ (w : List Lit). number (values w a)) pushed ∙ number-values-push c.loop-i.difference.items s a i c.loop-i.invariant.len in
          let m = number-values-more c.args.x.now d a i (omega arith) in
          omega (arith, g, p, m);
    }

pub returns-clause-value : goal.returns-clause-value
returns-clause-value c = λ a s le.
    let x = c.args.x.now in
    let i = c.loop-i.i in
    let d = c.loop-i.difference.items in
    let all : take i x ≡ x = take_all i x (omega arith) in
    let e = c.loop-i.invariant.value a s ∙ ap (λ (w : List Lit). number (values w a) + bit (lit_value c.loop-i.borrow a) * 2 ^ i) all in
    let lt : number (values d a) < 2 ^ i = subst (λ (k : ℕ). number (values d a) < 2 ^ k) (values-length d a ∙ c.loop-i.invariant.len) (number_lt (values d a)) in
    no_borrow (lit_value c.loop-i.borrow a) _ _ _ (2 ^ i) e lt le
