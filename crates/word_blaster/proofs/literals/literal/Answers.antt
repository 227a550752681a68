use Rattle.std.proofs.Common.{◌≡◌, ℕ, ◌+◌, ◌-◌, ◌*◌, ◌^◌, ◌%◌, ◌<◌, Bool, not, length, List, [], ◌∷◌, ◌++◌, ap, arith, sym, ◌∙◌, refl, subst}
use Rattle.std.specs.Prelude.{◌==◌, ℤ, pos, int_lt}
use Rattle.std.proofs.lemmas.List.{length_push}
use Rattle.sat_formula.specs.Lit.{lit_value, differ}
use Rattle.sat_formula.specs.declared.lit.Lit.{Lit}
use Rattle.word_blaster.specs.Word.{bit, number, signed, values, magnitude, WordBelow}
use Rattle.word_blaster.proofs.Bits.{double_pow, number_lt}
use Rattle.word_blaster.proofs.Words.{number-values-nil, number-values-push, values-push, values-length, WordBelow-nil, WordBelow-push}
use Rattle.word_blaster.proofs.Numerals.{IsSoFar, start, step, halved, fits_rest, signed_rest, not-beq}
use Rattle.sat_formula.specs.Formula.{Satisfies}
use borrow.Author.Tests.{eqb-true, not-false}
use mir.Val.{to_z, of_z}
use mir.Syntax.{w128}
use Rattle.std.proofs.lemmas.Int.{to_z-of_z}
use Rattle.word_blaster.proofs.literals.literal.Goals as goal

pub loop-i-init : goal.loop-i-init
loop-i-init c = record {
  below = subst (λ (w : List Lit). WordBelow c.args.f.now.vars w) (sym c.new-lits.ensures.items) (WordBelow-nil _);
  len = ap length c.new-lits.ensures.items;
  value = λ a s. start _ _ _ 1 (number-values-nil c.new-lits.result.items a c.new-lits.ensures.items) refl;
}

pub loop-i-preserved : goal.loop-i-preserved
loop-i-preserved c =
    let l = c.constant.result in
    record {
      below = subst (λ (w : List Lit). WordBelow c.args.f.now.vars w) (sym c.in_ok-push.ensures.items) (WordBelow-push _ _ _ c.loop-i.invariant.below c.constant.ensures.below);
      len = ap length c.in_ok-push.ensures.items ∙ length_push c.loop-i.lits.items l ∙ ap (λ (k : ℕ). k + 1) c.loop-i.invariant.len;
      value = λ a s.
          let b : lit_value l a ≡ differ (c.loop-i.rest % 2 == 1) c.is_negative-negative.result = c.constant.ensures.value a s ∙ not-beq _ _ in
          step c.is_negative-negative.result (c.loop-i.rest % 2 == 1) _ _ _ (2 ^ c.loop-i.i) _ c.loop-i.rest _ (halved c.loop-i.rest) (double_pow c.loop-i.i)
          (ap (λ (w : List Lit). number (values w a)) c.in_ok-push.ensures.items ∙ number-values-push c.loop-i.lits.items l a c.loop-i.i c.loop-i.invariant.len
          ∙ ap (λ (x : Bool). number (values c.loop-i.lits.items a) + bit x * 2 ^ c.loop-i.i) b)
          (c.loop-i.invariant.value a s);
    }

pub returns-clause-exact : goal.returns-clause-exact
returns-clause-exact c =
    let lits = c.loop-i.lits.items in
    let sign = c.constant-2.result in
    let n = c.args.n in
    let word : c.from_vec.result ≡ lits ++ sign ∷ [] = c.from_vec.ensures ∙ c.in_ok-push-2.ensures.items in
    let i : c.loop-i.i ≡ c.args.width - 1 = omega arith in
    let len : length lits ≡ c.args.width - 1 = c.loop-i.invariant.len ∙ i in
    let negative = c.is_negative-negative.result in
    let exact : to_z w128 (of_z w128 n) ≡ n = to_z-of_z w128 n c.ranges.n in
    let e : negative ≡ int_lt n (pos 0) = c.is_negative-negative.ensures ∙ ap (λ (z : ℤ). int_lt z (pos 0)) exact in
    let r = c.loop-i.rest in
    let z : c.magnitude_of-rest.result ≡ magnitude n = c.magnitude_of-rest.ensures.value ∙ ap magnitude exact in
    let so_far : (a : List Bool) → Satisfies a c.args.f.now → IsSoFar negative (number (values lits a)) (magnitude n) (2 ^ (c.args.width - 1)) r =
    λ a s. subst (λ (m : ℕ). IsSoFar negative (number (values lits a)) m (2 ^ (c.args.width - 1)) r) z
    (subst (λ (k : ℕ). IsSoFar negative (number (values lits a)) c.magnitude_of-rest.result (2 ^ k) r) i (c.loop-i.invariant.value a s)) in
    let small : (a : List Bool) → number (values lits a) < 2 ^ (c.args.width - 1) = λ a. subst (λ (k : ℕ). number (values lits a) < 2 ^ k) (values-length lits a ∙ len) (number_lt (values lits a)) in
    record {
      below = subst (λ (w : List Lit). WordBelow c.args.f.now.vars w) (sym word) (WordBelow-push _ _ _ c.loop-i.invariant.below c.constant-2.ensures.below);
      width = ap length word ∙ length_push lits sign ∙ omega (arith, len, c.requires);
      outside = record {
        below = c.constant-outside.ensures.below;
        value = λ a s. c.constant-outside.ensures.value a s ∙ ap not (sym (fits_rest n negative c.args.width _ r e (small a) (so_far a s)));
      };
      value = λ a s out.
          let none : r ≡ 0 = eqb-true r 0 (not-false _ (sym (c.constant-outside.ensures.value a s) ∙ out)) in
          let rest : IsSoFar negative (number (values lits a)) (magnitude n) (2 ^ length (values lits a)) 0 =
          subst (λ (k : ℕ). IsSoFar negative (number (values lits a)) (magnitude n) (2 ^ k) 0) (sym (values-length lits a ∙ len))
          (subst (λ (k : ℕ). IsSoFar negative (number (values lits a)) (magnitude n) (2 ^ (c.args.width - 1)) k) none (so_far a s)) in
          ap (λ (w : List Lit). signed (values w a)) word
          ∙ ap signed (values-push lits sign a)
          ∙ ap (λ (b : Bool). signed (values lits a ++ b ∷ [])) (c.constant-2.ensures.value a s)
          ∙ signed_rest n negative (values lits a) e rest;
    }
