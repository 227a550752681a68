use Rattle.std.proofs.Common.{◌≡◌, ℕ, ◌+◌, ◌*◌, ◌^◌, false, length, List, [], ◌∷◌, ◌++◌, ap, arith, sym, ◌∙◌, get_or, subst}
use Rattle.std.proofs.lemmas.List.{length_push}
use Rattle.sat_formula.specs.Lit.{lit_value}
use Rattle.sat_formula.specs.declared.lit.Lit.{Lit}
use Rattle.sat_formula.proofs.Extension.{Satisfies-older, Grows-trans, Grows-refl}
use Rattle.word_blaster.specs.Word.{bit, number, values, WordBelow}
use Rattle.word_blaster.proofs.Words.{number-values-nil, number-nil, number-values-push, number-values-more, place_added, adder_bits, WordBelow-nil, WordBelow-push, WordBelow-later, WordBelow-get}
use Rattle.word_blaster.proofs.Bits.{double_pow}
use Rattle.word_blaster.proofs.adders.ripple.Goals as goal

pub loop-i-init : goal.loop-i-init
loop-i-init c = record {
  grows = Grows-refl _;
  below = subst (λ (w : List Lit). WordBelow c.args.f.now.vars w) (sym c.new-sum.ensures.items) (WordBelow-nil c.args.f.now.vars);
  len = ap length c.new-sum.ensures.items;
  carry = omega arith;
  value = λ a s. let e = number-values-nil c.new-sum.result.items a c.new-sum.ensures.items in omega (arith, e, number-nil);
}

pub full_adder-requires-clause-x_below : goal.full_adder-requires-clause-x_below
full_adder-requires-clause-x_below c = WordBelow-get c.args.f.now.vars c.loop-i.f.vars c.args.x.now c.loop-i.i _ c.requires.words.left (omega arith) (omega arith)

pub full_adder-requires-clause-y_below : goal.full_adder-requires-clause-y_below
full_adder-requires-clause-y_below c = WordBelow-get c.args.f.now.vars c.loop-i.f.vars c.args.y.now c.loop-i.i _ c.requires.words.right (omega arith) (omega arith)

pub loop-i-preserved : goal.loop-i-preserved
loop-i-preserved c =
    let s = c.in_ok-s.s in
    let d : Lit = record { var = 0; neg = false } in
    let pushed : c.push.new.self.items ≡ c.loop-i.sum.items ++ s ∷ [] = c.in_ok-push.ensures.items in
    record {
      grows = Grows-trans _ _ _ c.loop-i.invariant.grows c.in_ok-s.ensures.grows;
      below = subst (λ (w : List Lit). WordBelow c.full_adder.new.f.vars w) (sym pushed)
          (WordBelow-push _ _ s (WordBelow-later _ _ _ c.loop-i.invariant.below c.in_ok-s.ensures.grows.vars) c.in_ok-s.ensures.sum.below);
      len = ap length pushed ∙ length_push c.loop-i.sum.items s ∙ ap (λ (k : ℕ). k + 1) c.loop-i.invariant.len;
      carry = c.in_ok-s.ensures.carry.below;
      value = λ a sat.
          let older = Satisfies-older _ _ a c.in_ok-s.ensures.grows sat in
          let e = c.loop-i.invariant.value a older in
          let x = get_or c.args.x.now c.loop-i.i d in
          let y = get_or c.args.y.now c.loop-i.i d in
          let g : bit (lit_value s a) + 2 * bit (lit_value c.in_ok-s.c a) ≡ bit (lit_value x a) + bit (lit_value y a) + bit (lit_value c.loop-i.carry a) =
          rw (c.in_ok-s.ensures.sum.value a sat, c.in_ok-s.ensures.carry.value a sat) (adder_bits (lit_value x a) (lit_value y a) (lit_value c.loop-i.carry a)) in
          let t = place_added _ _ _ (2 ^ c.loop-i.i) (2 ^ (c.loop-i.i + 1)) _ _ _ _ _ _ e g (double_pow c.loop-i.i) in
          let p : number (values c.push.new.self.items a) ≡ number (values c.loop-i.sum.items a) + bit (lit_value s a) * 2 ^ c.loop-i.i =
          ap (λ (w : List Lit). number (values w a)) pushed ∙ number-values-push c.loop-i.sum.items s a c.loop-i.i c.loop-i.invariant.len in
          let m = number-values-more c.args.x.now d a c.loop-i.i (omega arith) in
          let k = number-values-more c.args.y.now d a c.loop-i.i (omega arith) in
          omega (arith, t, p, m, k);
    }
